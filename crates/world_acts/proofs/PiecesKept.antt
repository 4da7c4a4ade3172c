-- Pieces under way: what the stage of one tells, and what a change of one keeps of all.
use Rattle.std.proofs.Common.{◌≡◌, ◌<◌, ℕ, ◌+◌, Bool, true, false, not, cond, nat_eq, List, length, IfSome, Option, None, Some}
use Rattle.std.proofs.Common.{option_map, refl, sym, ap, ◌∙◌, arith, true≢false}
use Rattle.std.specs.List.{list_any}
use Rattle.std.specs.Option.{option_map_or}
use Rattle.std.proofs.lemmas.Bool.{and_parts, eqb-false, ne_eqb}
use Rattle.sector_base.specs.declared.places.Piece.{Piece}
use Rattle.lvm_script.specs.declared.line.Line.{Line}
use Rattle.disk_model.specs.Steps.{Work as DiskWork}
use Rattle.claim_table.specs.Steps.{has_number}
use Rattle.flush_plan.specs.declared.records.Flush.{Flush}
use Rattle.flush_waits.specs.declared.ticket.Waiting.{Waiting as Waits}
use Rattle.flush_waits.specs.Waits.{DiskWaits}
use Rattle.piece_table.specs.declared.live.LivePiece.{LivePiece}
use Rattle.piece_table.specs.declared.live.Owner.{Owner}
use Rattle.piece_table.specs.declared.live.Stage.{Stage}
use Rattle.piece_table.specs.declared.live.Stage.TheVariants.{Started, Taken, Waiting}
use Rattle.piece_table.specs.Pieces.{Pieces, flying_in, flying_of, is_started_stage, is_waiting, is_waiting_stage, live_at, may_start}
use Rattle.piece_table.specs.Pieces.{no_pieces, owner_at}
use Rattle.piece_table.specs.Steps.{with_live}
use Rattle.world_acts.specs.declared.volumes.Volumes.{Volumes}
use Rattle.world_acts.specs.Counts.{awaited_at, awaited_of, is_line, is_piece, is_unsubmitted, pieces_of, waiting}
use Rattle.world_acts.specs.OpenLines.{Opens, left_of}
use Rattle.world_acts.specs.Orderly.{AreCounted, AreOnDisks, AreOwned, ArePieces, AwaitsOnce, HasSectors, IsLive}
use Rattle.world_acts.specs.Owners.{owned_work}
use Rattle.world_acts.specs.Volumes.{IsPlaced}
use Rattle.world_acts.proofs.LinesKept.{LinesStay, hit}
use Rattle.world_acts.proofs.Tables.{AreSingle, Changes, all_changed, at_number, counted_at, kept_at, no_count, none_counted, revalued}
use Rattle.world_acts.proofs.Tables.{weight}

-- a piece at this stage
pub record PieceAt (lives : List (ℕ × LivePiece)) (number : ℕ) (stage : Stage) : Type 0 where
  pub line : ℕ
  pub piece : Piece
  pub ticket : Option (Unit {0})
  pub at : live_at lives number ≡ Some (record { line = line; piece = piece; stage = stage; ticket = ticket })

-- of a piece that may start nothing was submitted
pub start_waits : (pieces : Pieces) (number : ℕ) → may_start pieces number ≡ true → is_waiting pieces number ≡ true
start_waits pieces number may = (and_parts (is_waiting pieces number) (not (list_any (has_number number) pieces.claims.deferred)) may).0

module _ (lives : List (ℕ × LivePiece)) (number : ℕ) where
  piece_at : (l : LivePiece) (stage : Stage) → live_at lives number ≡ Some l → l.stage ≡ stage → PieceAt lives number stage
  piece_at l stage at is =
      record { line = l.line; piece = l.piece; ticket = l.ticket; at = at ∙ (λ i. Some (record l { stage = is i })) }

  pub waiting_at : option_map_or (λ (l : LivePiece). is_waiting_stage l.stage) (live_at lives number) false ≡ true
      → (sectors : List (List ℕ)) × PieceAt lives number (Waiting sectors)
  waiting_at is = by (live_at lives number) refl is
    where
      of : (l : LivePiece) (stage : Stage) → live_at lives number ≡ Some l → l.stage ≡ stage → is_waiting_stage stage ≡ true
          → (sectors : List (List ℕ)) × PieceAt lives number (Waiting sectors)
      of l (Waiting sectors) at same is = (sectors, piece_at l (Waiting sectors) at same)
      of l (Started flying lost) at same is = absurd (true≢false (sym is))
      of l (Taken awaited) at same is = absurd (true≢false (sym is))

      by : (o : Option LivePiece) → live_at lives number ≡ o → option_map_or (λ (l : LivePiece). is_waiting_stage l.stage) o false ≡ true
          → (sectors : List (List ℕ)) × PieceAt lives number (Waiting sectors)
      by None at is = absurd (true≢false (sym is))
      by (Some l) at is = of l l.stage at refl is

  pub started_at : option_map_or (λ (l : LivePiece). is_started_stage l.stage) (live_at lives number) false ≡ true
      → (flying : ℕ) × (lost : Option ℕ) × PieceAt lives number (Started flying lost)
  started_at is = by (live_at lives number) refl is
    where
      of : (l : LivePiece) (stage : Stage) → live_at lives number ≡ Some l → l.stage ≡ stage → is_started_stage stage ≡ true
          → (flying : ℕ) × (lost : Option ℕ) × PieceAt lives number (Started flying lost)
      of l (Waiting sectors) at same is = absurd (true≢false (sym is))
      of l (Started flying lost) at same is = (flying, lost, piece_at l (Started flying lost) at same)
      of l (Taken awaited) at same is = absurd (true≢false (sym is))

      by : (o : Option LivePiece) → live_at lives number ≡ o → option_map_or (λ (l : LivePiece). is_started_stage l.stage) o false ≡ true
          → (flying : ℕ) × (lost : Option ℕ) × PieceAt lives number (Started flying lost)
      by None at is = absurd (true≢false (sym is))
      by (Some l) at is = of l l.stage at refl is

  -- a piece that has operations in flight is started, and one that awaits took place
  pub flying_started : 0 < flying_in lives number → (flying : ℕ) × (lost : Option ℕ) × PieceAt lives number (Started flying lost)
  flying_started some = by (live_at lives number) refl some
    where
      of : (l : LivePiece) (stage : Stage) → live_at lives number ≡ Some l → l.stage ≡ stage → 0 < flying_of stage
          → (flying : ℕ) × (lost : Option ℕ) × PieceAt lives number (Started flying lost)
      of l (Waiting sectors) at same some = absurd (omega (arith, some))
      of l (Started flying lost) at same some = (flying, lost, piece_at l (Started flying lost) at same)
      of l (Taken awaited) at same some = absurd (omega (arith, some))

      by : (o : Option LivePiece) → live_at lives number ≡ o → 0 < option_map_or (λ (l : LivePiece). flying_of l.stage) o 0
          → (flying : ℕ) × (lost : Option ℕ) × PieceAt lives number (Started flying lost)
      by None at some = absurd (omega (arith, some))
      by (Some l) at some = of l l.stage at refl some

  pub awaiting_taken : 0 < awaited_at lives number → (awaited : ℕ) × PieceAt lives number (Taken awaited)
  awaiting_taken some = by (live_at lives number) refl some
    where
      of : (l : LivePiece) (stage : Stage) → live_at lives number ≡ Some l → l.stage ≡ stage → 0 < awaited_of stage
          → (awaited : ℕ) × PieceAt lives number (Taken awaited)
      of l (Waiting sectors) at same some = absurd (omega (arith, some))
      of l (Started flying lost) at same some = absurd (omega (arith, some))
      of l (Taken awaited) at same some = (awaited, piece_at l (Taken awaited) at same)

      by : (o : Option LivePiece) → live_at lives number ≡ o → 0 < option_map_or (λ (l : LivePiece). awaited_of l.stage) o 0
          → (awaited : ℕ) × PieceAt lives number (Taken awaited)
      by None at some = absurd (omega (arith, some))
      by (Some l) at some = of l l.stage at refl some

-- the table with another piece under a number
abbrev pub with_piece : List (ℕ × LivePiece) → ℕ → LivePiece → List (ℕ × LivePiece)
with_piece lives number l = (with_live (record no_pieces { lives = lives }) number l).lives

pub piece_replaced : (lives : List (ℕ × LivePiece)) (number : ℕ) (old new : LivePiece) → AreSingle lives → live_at lives number ≡ Some old
    → Changes number (Some old) (Some new) lives (with_piece lives number new)
piece_replaced lives number old new single at = revalued lives number old new single at

-- what holds of a piece at another stage
none_waits : (begun : List Line) (l : LivePiece) → is_unsubmitted l.stage ≡ false → HasSectors begun l
none_waits begun l none = record {
  many = λ is. absurd (true≢false (sym is ∙ none));
  brought = λ is. absurd (true≢false (sym is ∙ none));
}

pub staged : {begun : List Line} {opens : Opens} {next number : ℕ} (l : LivePiece) (stage : Stage) (ticket : Option (Unit {0}))
    → is_unsubmitted stage ≡ false
    → AwaitsOnce (record l { stage = stage; ticket = ticket })
    → IsLive begun opens next (number, l)
    → IsLive begun opens next (number, record l { stage = stage; ticket = ticket })
staged {begun} l stage ticket none awaits is = record {
  below = is.below;
  of_line = record { opened = is.of_line.opened; is_open = is.of_line.is_open; key = is.of_line.key; part = is.of_line.part };
  sectors = none_waits begun (record l { stage = stage; ticket = ticket }) none;
  awaits = awaits;
}

pub awaits_none : (l : LivePiece) (flying : ℕ) (lost : Option ℕ) → AwaitsOnce l → AwaitsOnce (record l { stage = Started flying lost })
awaits_none l flying lost is = record { once = omega arith; spent = λ taken. absurd (true≢false (sym taken)); through = is.through }

-- the pieces, where one changes
pub pieces_changed : {begun begun' : List Line} {opens opens' : Opens} {next next' number : ℕ} {was is : Option LivePiece}
    {lives lives' : List (ℕ × LivePiece)}
    → Changes number was is lives lives'
    → ((e : ℕ × LivePiece) → IsLive begun opens next e → IsLive begun' opens' next' e)
    → IfSome is (λ l. IsLive begun' opens' next' (number, l))
    → ArePieces begun opens next lives
    → ArePieces begun' opens' next' lives'
pieces_changed {begun} {begun'} {opens} {opens'} {next} {next'} change stay own p = record {
  single = change.single;
  each =
      all_changed (IsLive begun opens next) (IsLive begun' opens' next') change p.each (λ q l apart at is. stay (q, l) is) own;
}

-- where they stand
pub places_changed : {sizes : List ℕ} {volumes : Volumes} {number : ℕ} {was is : Option LivePiece} {lives lives' : List (ℕ × LivePiece)}
    {disks disks' : List DiskWaits}
    → Changes number was is lives lives'
    → IfSome is (λ l. IsPlaced volumes sizes l.piece)
    → length disks' ≡ length disks
    → AreOnDisks sizes volumes lives disks
    → AreOnDisks sizes volumes lives' disks'
places_changed {sizes} {volumes} change own long p = record {
  laid = p.laid;
  placed =
      all_changed (λ (e : ℕ × LivePiece). IsPlaced volumes sizes e.1.piece) (λ (e : ℕ × LivePiece). IsPlaced volumes sizes e.1.piece) change
      p.placed (λ q l apart at is. is) own;
  many = long ∙ p.many;
  few = p.few;
}

-- whose the operations in flight are, where none of the changed piece is
pub owners_changed : {number : ℕ} {was is : Option LivePiece} {lives lives' : List (ℕ × LivePiece)} {owners : List (ℕ × Owner)}
    → Changes number was is lives lives'
    → option_map_or (λ (l : LivePiece). flying_of l.stage) was 0 ≡ 0
    → option_map_or (λ (l : LivePiece). flying_of l.stage) is 0 ≡ 0
    → AreOwned lives owners
    → AreOwned lives' owners
owners_changed {number} {was} {is} {lives} {lives'} {owners} change none none' o = record {
  single = o.single;
  flying =
      λ q. let f : LivePiece → ℕ = λ (l : LivePiece). flying_of l.stage in
      let e : flying_in lives' q + cond (nat_eq number q) (option_map_or f was 0) 0
      ≡ flying_in lives q + cond (nat_eq number q) (option_map_or f is 0) 0 =
      counted_at change f q in
      let x : cond (nat_eq number q) (option_map_or f was 0) 0 ≡ 0 =
      ap (λ (n : ℕ). cond (nat_eq number q) n 0) none ∙ no_count (nat_eq number q) in
      let y : cond (nat_eq number q) (option_map_or f is 0) 0 ≡ 0 =
      ap (λ (n : ℕ). cond (nat_eq number q) n 0) none' ∙ no_count (nat_eq number q) in
      omega (arith, o.flying q);
}

-- the counts, where a piece, what waits and what is left of a line change
abbrev pub counts_for : ℕ → ℕ → Option LivePiece → ℕ
counts_for number q o = weight (λ (e : ℕ × LivePiece). hit (nat_eq e.1.line q)) number o

abbrev pub awaits_at : ℕ → ℕ → Option LivePiece → ℕ
awaits_at number q o = cond (nat_eq number q) (option_map_or (λ (l : LivePiece). awaited_of l.stage) o 0) 0

pub counts_changed : {line number : ℕ} {more less : Bool → ℕ} {opens opens' : Opens} {was is : Option LivePiece}
    {lives lives' : List (ℕ × LivePiece)} {disks disks' : List DiskWaits} (gone come : (Waits → Bool) → ℕ)
    → Changes number was is lives lives'
    → LinesStay line more less opens opens'
    → ((test : Waits → Bool) → waiting test disks' + gone test ≡ waiting test disks + come test)
    → ((q : ℕ) → more (nat_eq line q) + counts_for number q was + gone (is_line q)
    ≡ less (nat_eq line q) + counts_for number q is + come (is_line q))
    → ((q : ℕ) → awaits_at number q is + gone (is_piece q) ≡ awaits_at number q was + come (is_piece q))
    → AreCounted opens lives disks
    → AreCounted opens' lives' disks'
counts_changed {line} {number} {more} {less} {opens} {opens'} {was} {is} {lives} {lives'} gone come change stay waits lefts awaits c =
    record {
      left =
          λ q. let a : left_of opens' q + less (nat_eq line q) ≡ left_of opens q + more (nat_eq line q) = stay.left q in
          let b : pieces_of q lives' + counts_for number q was ≡ pieces_of q lives + counts_for number q is =
          change.summed (λ (e : ℕ × LivePiece). hit (nat_eq e.1.line q)) in
          omega (arith, a, b, waits (is_line q), lefts q, c.left q);
      awaited =
          λ q. let a : awaited_at lives' q + awaits_at number q was ≡ awaited_at lives q + awaits_at number q is =
          counted_at change (λ (l : LivePiece). awaited_of l.stage) q in
          omega (arith, a, waits (is_piece q), awaits q, c.awaited q);
    }

-- what is in flight, where its owner's piece does the same
pub work_kept : (lives lives' : List (ℕ × LivePiece)) (work work' : LivePiece → DiskWork) (flush : Option Flush) (owner : Option Owner)
    → IfSome owner (λ o. option_map work' (live_at lives' o.piece) ≡ option_map work (live_at lives o.piece))
    → owned_work lives' work' flush owner ≡ owned_work lives work flush owner
work_kept lives lives' work work' flush None same = refl
work_kept lives lives' work work' flush (Some o) same = same

-- a piece that does the same
pub piece_kept : {number : ℕ} {was is : Option LivePiece} {lives lives' : List (ℕ × LivePiece)} → Changes number was is lives lives'
    → (work : LivePiece → DiskWork)
    → option_map work is ≡ option_map work was
    → (owner : Option Owner)
    → IfSome owner (λ o. option_map work (live_at lives' o.piece) ≡ option_map work (live_at lives o.piece))
piece_kept change work same None = tt
piece_kept change work same (Some o) = kept_at change work same o.piece

-- a piece without operations in flight owns none
swapped : (a b : ℕ) → nat_eq a b ≡ false → nat_eq b a ≡ false
swapped a b apart = ne_eqb b a (λ e. eqb-false a b apart (sym e))

pub owns_none : {lives : List (ℕ × LivePiece)} {owners : List (ℕ × Owner)} (number : ℕ) → AreOwned lives owners → flying_in lives number ≡ 0
    → (tag : ℕ)
    → IfSome (owner_at owners tag) (λ o. nat_eq number o.piece ≡ false)
owns_none {lives} {owners} number o none tag = by (owner_at owners tag) refl
  where
    by : (x : Option Owner) → owner_at owners tag ≡ x → IfSome x (λ o. nat_eq number o.piece ≡ false)
    by None at = tt
    by (Some x) at =
        swapped x.piece number
        (at_number (λ (e : ℕ × Owner). nat_eq e.1.piece number ≡ false) owners tag x
        (none_counted (λ (e : ℕ × Owner). nat_eq e.1.piece number) owners (sym (o.flying number) ∙ none)) at)
