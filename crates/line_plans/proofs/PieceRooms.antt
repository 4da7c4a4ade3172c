-- The room of a plan, piece by piece.
use Rattle.std.proofs.Common.{◌≡◌, ◌<◌, ℕ, ◌+◌, List, length, drop, get_or, ap, sym, ◌∙◌, arith}
use Rattle.std.specs.Prelude.{is_some}
use Rattle.std.proofs.lemmas.List.{drop_all}
use Rattle.list_laws.proofs.Walks.{next_read}
use Rattle.world_acts.specs.declared.open_line.OpenLine.{OpenLine}
use Rattle.world_acts.specs.declared.room.Room.{Room}
use Rattle.world_acts.specs.Rooms.{line_room, more, piece_room, work_entries}
use Rattle.line_plans.specs.declared.preparing.NewPiece.{NewPiece}
use Rattle.line_plans.specs.Plans.{flushes_room, no_room, pieces_room}

more_assoc : (a b c : Room) → more (more a b) c ≡ more a (more b c)
more_assoc a b c =
    let ops : a.ops + b.ops + c.ops ≡ a.ops + (b.ops + c.ops) = omega arith in
    let sectors : a.sectors + b.sectors + c.sectors ≡ a.sectors + (b.sectors + c.sectors) = omega arith in
    let writes : a.writes + b.writes + c.writes ≡ a.writes + (b.writes + c.writes) = omega arith in
    let waits : a.waits + b.waits + c.waits ≡ a.waits + (b.waits + c.waits) = omega arith in
    let entries : a.entries + b.entries + c.entries ≡ a.entries + (b.entries + c.entries) = omega arith in
    λ i. record { ops = ops i; sectors = sectors i; writes = writes i; waits = waits i; entries = entries i }

none_more : (a : Room) → more a no_room ≡ a
none_more a =
    let ops : a.ops + 0 ≡ a.ops = omega arith in
    let sectors : a.sectors + 0 ≡ a.sectors = omega arith in
    let writes : a.writes + 0 ≡ a.writes = omega arith in
    let waits : a.waits + 0 ≡ a.waits = omega arith in
    let entries : a.entries + 0 ≡ a.entries = omega arith in
    λ i. record { ops = ops i; sectors = sectors i; writes = writes i; waits = waits i; entries = entries i }

-- of the line and its flushes
pub first_room : (opened : OpenLine) (room : Room) (flushes : ℕ) → room ≡ line_room opened
    → record room { ops = flushes; waits = flushes } ≡ more (line_room opened) (flushes_room flushes)
first_room opened room flushes is =
    let entries : work_entries opened.work ≡ work_entries opened.work + 0 = omega arith in
    let same : flushes ≡ 0 + flushes = omega arith in
    ap (λ (r : Room). record r { ops = flushes; waits = flushes }) is
    ∙ (λ i. record { ops = same i; sectors = 0; writes = 0; waits = same i; entries = entries i })

-- one piece more
pub room_more : (news : List NewPiece) (k : ℕ) (new : NewPiece) (room next all : Room) → k < length news → new ≡ get_or news k new
    → next ≡ more room (piece_room new.piece (is_some new.ticket)) → more room (pieces_room (drop k news)) ≡ all
    → more next (pieces_room (drop (k + 1) news)) ≡ all
room_more news k new room next all within is added so_far =
    let rest : List NewPiece = drop (k + 1) news in
    ap (λ (r : Room). more r (pieces_room rest)) added ∙ more_assoc room (piece_room new.piece (is_some new.ticket)) (pieces_room rest)
    ∙ sym (ap (λ (l : List NewPiece). more room (pieces_room l)) (next_read news k new within is)) ∙ so_far

-- and all of them
pub room_all : (news : List NewPiece) (k : ℕ) (room all : Room) → length news ≡ k → more room (pieces_room (drop k news)) ≡ all → room ≡ all
room_all news k room all past so_far =
    sym (none_more room) ∙ sym (ap (λ (l : List NewPiece). more room (pieces_room l)) (drop_all k news (omega (arith, past)))) ∙ so_far
