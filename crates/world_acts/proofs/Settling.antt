-- A piece that fails, and one that has read.
use Rattle.std.proofs.Common.{◌≡◌, ◌≤◌, ℕ, ◌+◌, ◌-◌, true, false, min, nat_eq, List, ◌++◌, length, take, drop, Option}
use Rattle.std.proofs.Common.{None, Some, is_some, unwrap_or, refl, sym, ap, subst, ◌∙◌, arith, true≢false}
use Rattle.std.specs.Option.{option_map_or}
use Rattle.std.proofs.lemmas.List.{length-append, length-drop, length-take}
use Rattle.indexmap.specs.IndexMap.{swap_remove_entry}
use Rattle.sector_base.specs.declared.places.Piece.{Piece}
use Rattle.line_answers.specs.declared.answer.Answer.{Answer}
use Rattle.claim_table.specs.Steps as claims
use Rattle.line_table.specs.Machine.{put_at}
use Rattle.line_table.specs.Steps as lines
use Rattle.piece_table.specs.declared.live.LivePiece.{LivePiece}
use Rattle.piece_table.specs.declared.live.Stage.TheVariants.{Started}
use Rattle.piece_table.specs.Pieces.{flying_of, live_at}
use Rattle.piece_table.specs.Steps.{live_of, no_live}
use Rattle.world_acts.specs.declared.state.Core.{Core}
use Rattle.world_acts.specs.declared.open_line.OpenLine.{OpenLine}
use Rattle.world_acts.specs.declared.open_line.Work.{Work}
use Rattle.world_acts.specs.declared.open_line.Work.TheVariants.{Read, Whole, Write}
use Rattle.world_acts.specs.Acts.{Allowed, Fails, IsPartOf, Reads, World, after}
use Rattle.world_acts.specs.OpenLines.{Opens, after_failure, after_filled, after_finished, filled, is_whole, open_at, with_open}
use Rattle.world_acts.specs.Orderly.{IsLive, IsOrderly}
use Rattle.world_acts.specs.Rooms.{fail_room, fewer, one, work_entries}
use Rattle.world_acts.proofs.Begun.{last_pushed}
use Rattle.world_acts.proofs.Leaving.{finished_after, left_core, left_orderly, something_left}
use Rattle.world_acts.proofs.LinesKept.{LinesStay, line_failed, line_stays, never, open_is}
use Rattle.world_acts.proofs.PiecesKept.{piece_replaced, with_piece}
use Rattle.world_acts.proofs.PiecesKept.{started_at}
use Rattle.world_acts.proofs.Tables.{Changes, at_number, changes_both, no_count, own_at, removed}

-- ---- a piece fails

fails_from : (w : World) (number line : ℕ) (piece : Piece) (flying : ℕ) (lost : Option ℕ) (ticket : Option (Unit {0})) (why : Answer)
    → IsOrderly w
    → flying ≡ 0
    → live_at w.core.pieces.lives number ≡ Some (record { line = line; piece = piece; stage = Started flying lost; ticket = ticket })
    → IsOrderly (record w {
      core =
          left_core w.core (lines.after_failed w.core.lines line piece w.shelf.steps).journal (w.core.lines.spare_entries - 1)
          (after_finished (after_failure w.core.opens line why) line) (claims.after_leave w.core.pieces.claims number)
          (swap_remove_entry (nat_eq number)
          (with_piece w.core.pieces.lives number (record { line = line; piece = piece; stage = Started flying lost; ticket = None })))
          w.core.waits (fewer w.core.owed (fail_room piece (is_some ticket)));
    })
fails_from w number line piece flying lost ticket why o rests at =
    let c : Core = w.core in
    let old : LivePiece = record { line = line; piece = piece; stage = Started flying lost; ticket = ticket } in
    let mid : LivePiece = record { line = line; piece = piece; stage = Started flying lost; ticket = None } in
    let t = o.tidy in
    let first : Changes number (Some old) (Some mid) c.pieces.lives (with_piece c.pieces.lives number mid) =
    piece_replaced c.pieces.lives number old mid t.pieces.single at in
    let change = changes_both first (removed (with_piece c.pieces.lives number mid) number mid first.single (own_at first)) in
    let is : IsLive c.lines.begun c.opens c.pieces.next (number, old) =
    at_number (IsLive c.lines.begun c.opens c.pieces.next) c.pieces.lives number old t.pieces.each at in
    let f = is.of_line in
    left_orderly {gone = λ test. 0} (claims.after_leave c.pieces.claims number) o
    (record {
      change = change;
      rests = rests;
      stay =
          finished_after line f.opened f.is_open (something_left change t.counts)
          (line_failed c.opens line f.opened why f.is_open);
      long = refl;
      counted = λ test. omega arith;
      nexts = refl;
      no_line = λ q. refl;
      its = λ q. sym (no_count (nat_eq number q));
      planned = t.flushes;
      flushes = λ q. refl;
      its_ops = omega arith;
      its_sectors = refl;
      its_writes = refl;
      its_waits = refl;
      its_entries = refl;
      writes = omega arith;
      room = omega arith;
      spare = omega arith;
      owes = refl;
      moments =
          (let last : lines.last_moment (lines.after_failed c.lines line piece w.shelf.steps).journal ≡ w.shelf.steps =
          last_pushed c.lines.journal _ in omega (arith, last));
    })

pub after_fail : (w : World) (number : ℕ) (why : Answer) → IsOrderly w → Allowed w (Fails number why)
    → IsOrderly (after w (Fails number why))
after_fail w number why o allowed =
    let c : Core = w.core in
    let p = started_at c.pieces.lives number allowed.0 in
    let at = p.2.at in
    let rests : p.0 ≡ 0 = sym (ap (λ (x : Option LivePiece). option_map_or (λ (l : LivePiece). flying_of l.stage) x 0) at) ∙ allowed.1 in
    let old : LivePiece = record { line = p.2.line; piece = p.2.piece; stage = Started p.0 p.1; ticket = p.2.ticket } in
    let is : live_of c.pieces number ≡ old = ap (λ (x : Option LivePiece). unwrap_or x no_live) at in
    subst (λ (x : LivePiece). IsOrderly (record w {
      core =
          left_core c (lines.after_failed c.lines x.line x.piece w.shelf.steps).journal (c.lines.spare_entries - 1)
          (after_finished (after_failure c.opens x.line why) x.line) (claims.after_leave c.pieces.claims number)
          (swap_remove_entry (nat_eq number) (with_piece c.pieces.lives number (record x { ticket = None }))) c.waits
          (fewer c.owed (fail_room x.piece (is_some x.ticket)));
    })) (sym is)
    (fails_from w number p.2.line p.2.piece p.0 p.1 p.2.ticket why o rests at)

-- ---- a piece has read

-- sectors that are put in within a buffer leave its length
put_length : (first : ℕ) (sectors buffer : List (List ℕ)) → first + length sectors ≤ length buffer
    → length (put_at first sectors buffer) ≡ length buffer
put_length first sectors buffer within =
    let a : length (take first buffer ++ sectors ++ drop (first + length sectors) buffer)
    ≡ length (take first buffer ++ sectors) + length (drop (first + length sectors) buffer) =
    length-append (take first buffer ++ sectors) (drop (first + length sectors) buffer) in
    let b : length (take first buffer ++ sectors) ≡ length (take first buffer) + length sectors =
    length-append (take first buffer) sectors in
    let c : length (take first buffer) ≡ min first (length buffer) = length-take first buffer in
    let d : length (drop (first + length sectors) buffer) ≡ length buffer - (first + length sectors) =
    length-drop (first + length sectors) buffer in
    omega (arith, a, b, c, d, within)

-- what is read of a line's piece leaves what else it may do
filled_part : (work : Work) (mine piece : Piece) (sectors : List (List ℕ)) → IsPartOf work mine → length sectors ≡ mine.count
    → IsPartOf work piece
    → IsPartOf (filled work mine.first sectors) piece
filled_part (Read start buffer) mine piece sectors own many part =
    let same : length (put_at (mine.first - start) sectors buffer) ≡ length buffer =
    put_length (mine.first - start) sectors buffer (omega (arith, own.1, own.2, many)) in
    (part.0, part.1, omega (arith, part.2, same))
filled_part Write mine piece sectors own many part = part
filled_part (Whole answer) mine piece sectors own many part = part

filled_whole : (work : Work) (first : ℕ) (sectors : List (List ℕ)) → is_whole (filled work first sectors) ≡ is_whole work
filled_whole (Read start buffer) first sectors = refl
filled_whole Write first sectors = refl
filled_whole (Whole answer) first sectors = refl

filled_entries : (work : Work) (first : ℕ) (sectors : List (List ℕ)) → work_entries (filled work first sectors) ≡ work_entries work
filled_entries (Read start buffer) first sectors = refl
filled_entries Write first sectors = refl
filled_entries (Whole answer) first sectors = refl

line_filled : (opens : Opens) (line : ℕ) (o : OpenLine) (mine : Piece) (sectors : List (List ℕ)) → open_at opens line ≡ Some o
    → IsPartOf o.work mine
    → length sectors ≡ mine.count
    → LinesStay line never never opens (after_filled opens line mine.first sectors)
line_filled opens line o mine sectors at own many =
    subst (λ (x : OpenLine). LinesStay line never never opens (with_open opens line (record x { work = filled x.work mine.first sectors })))
    (sym (open_is opens line o at))
    (line_stays opens line never never o (record o { work = filled o.work mine.first sectors }) at
    (record {
      key = refl;
      part = λ piece is. filled_part o.work mine piece sectors own many is;
      whole = filled_whole o.work mine.first sectors;
      entries = filled_entries o.work mine.first sectors;
    }) (omega arith) refl)

no_ticket : (ticket : Option (Unit {0})) → (is_some ticket ≡ true → ⊥) → ticket ≡ None
no_ticket None none = refl
no_ticket (Some x) none = absurd (none refl)

reads_from : (w : World) (number line : ℕ) (piece : Piece) (flying : ℕ) (lost : Option ℕ) (ticket : Option (Unit {0}))
    (sectors : List (List ℕ))
    → IsOrderly w
    → flying ≡ 0
    → piece.write ≡ false
    → length sectors ≡ piece.count
    → live_at w.core.pieces.lives number ≡ Some (record { line = line; piece = piece; stage = Started flying lost; ticket = ticket })
    → IsOrderly (record w {
      core =
          left_core w.core (lines.after_took w.core.lines line piece w.shelf.steps).journal (w.core.lines.spare_entries - 1)
          (after_finished (after_filled w.core.opens line piece.first sectors) line) (claims.after_leave w.core.pieces.claims number)
          (swap_remove_entry (nat_eq number) w.core.pieces.lives) w.core.waits
          (fewer w.core.owed (record { ops = 0; sectors = 0; writes = 0; waits = 0; entries = 1 }));
    })
reads_from w number line piece flying lost ticket sectors o rests reads many at =
    let c : Core = w.core in
    let old : LivePiece = record { line = line; piece = piece; stage = Started flying lost; ticket = ticket } in
    let t = o.tidy in
    let change = removed c.pieces.lives number old t.pieces.single at in
    let is : IsLive c.lines.begun c.opens c.pieces.next (number, old) =
    at_number (IsLive c.lines.begun c.opens c.pieces.next) c.pieces.lives number old t.pieces.each at in
    let f = is.of_line in
    let none : ticket ≡ None = no_ticket ticket (λ some. true≢false (sym (is.awaits.through some) ∙ reads)) in
    let no_room : one (is_some ticket) ≡ 0 = ap (λ (x : Option (Unit {0})). one (is_some x)) none in
    let no_write : one piece.write ≡ 0 = ap one reads in
    left_orderly {gone = λ test. 0} (claims.after_leave c.pieces.claims number) o
    (record {
      change = change;
      rests = rests;
      stay =
          finished_after line f.opened f.is_open (something_left change t.counts)
          (line_filled c.opens line f.opened piece sectors f.is_open f.part many);
      long = refl;
      counted = λ test. omega arith;
      nexts = refl;
      no_line = λ q. refl;
      its = λ q. sym (no_count (nat_eq number q));
      planned = t.flushes;
      flushes = λ q. refl;
      its_ops = omega (arith, no_room);
      its_sectors = refl;
      its_writes = sym no_write;
      its_waits = sym no_room;
      its_entries = refl;
      writes = omega arith;
      room = omega arith;
      spare = omega arith;
      owes = refl;
      moments =
          (let last : lines.last_moment (lines.after_took c.lines line piece w.shelf.steps).journal ≡ w.shelf.steps =
          last_pushed c.lines.journal _ in omega (arith, last));
    })

pub after_read : (w : World) (number : ℕ) (sectors : List (List ℕ)) → IsOrderly w → Allowed w (Reads number sectors)
    → IsOrderly (after w (Reads number sectors))
after_read w number sectors o allowed =
    let c : Core = w.core in
    let p = started_at c.pieces.lives number allowed.0 in
    let at = p.2.at in
    let rests : p.0 ≡ 0 = sym (ap (λ (x : Option LivePiece). option_map_or (λ (l : LivePiece). flying_of l.stage) x 0) at) ∙ allowed.1 in
    let old : LivePiece = record { line = p.2.line; piece = p.2.piece; stage = Started p.0 p.1; ticket = p.2.ticket } in
    let is : live_of c.pieces number ≡ old = ap (λ (x : Option LivePiece). unwrap_or x no_live) at in
    subst (λ (x : LivePiece). IsOrderly (record w {
      core =
          left_core c (lines.after_took c.lines x.line x.piece w.shelf.steps).journal (c.lines.spare_entries - 1)
          (after_finished (after_filled c.opens x.line x.piece.first sectors) x.line) (claims.after_leave c.pieces.claims number)
          (swap_remove_entry (nat_eq number) c.pieces.lives) c.waits
          (fewer c.owed (record { ops = 0; sectors = 0; writes = 0; waits = 0; entries = 1 }));
    })) (sym is)
    (reads_from w number p.2.line p.2.piece p.0 p.1 p.2.ticket sectors o rests (sym (ap (λ (x : LivePiece). x.piece.write) is) ∙ allowed.2)
    (allowed.3 ∙ ap (λ (x : LivePiece). x.piece.count) is) at)
