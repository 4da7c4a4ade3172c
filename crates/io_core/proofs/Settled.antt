-- A piece whose operation has ended took place, or fails.
use Rattle.std.proofs.Common.{◌≡◌, ◌<◌, ℕ, Bool, true, false, cond, nat_eq, nat_le, List, [], ◌∷◌, length, Option, None, Some, is_some}
use Rattle.std.proofs.Common.{refl}
use Rattle.std.proofs.Common.{sym, ap, subst}
use Rattle.std.proofs.Common.{◌∙◌, ◌||◌, arith}
use Rattle.std.specs.Cmp.{nat_cmp_total, unsigned_tied}
use Rattle.std.specs.FinSet as set
use Rattle.std.specs.Ordering.{nat_cmp}
use Rattle.std.proofs.lemmas.Bool.{cond_both, eq-eqb, eqb-false, eqb-true}
use Rattle.std.proofs.lemmas.List.{get_or-set_other, get_or-set_same}
use Rattle.sector_base.specs.declared.spans.Span.{Span}
use Rattle.line_answers.specs.declared.answer.Answer.{Answer}
use Rattle.disk_model.specs.declared.ops.Op.{Op}
use Rattle.disk_model.specs.declared.ops.Op.TheVariants.{Flush, Read, Write}
use Rattle.disk_model.specs.Operations.{Lies, work_of}
use Rattle.disk_model.specs.Steps.{Flushing, Reading, Work as DiskWork, Writing, sectors_of_work}
use Rattle.flush_plan.specs.declared.records.Flush.{Flush as InFlight}
use Rattle.flush_plan.specs.Plans.{flight_of, marks_of}
use Rattle.flush_waits.specs.declared.ticket.Waiting.{Waiting}
use Rattle.flush_waits.specs.declared.waits.Awaited.TheVariants.{Lost, Served, Stable, Unserved}
use Rattle.flush_waits.specs.declared.ticket.Waiter.TheVariants as waiter
use Rattle.flush_waits.specs.Steps.{after_wait, with_waiting}
use Rattle.flush_waits.specs.Waits.{DiskWaits, Waits, awaited, disk_waits, none_waits, serves}
use Rattle.piece_table.specs.declared.live.LivePiece.{LivePiece}
use Rattle.piece_table.specs.Pieces.{flying_at, is_started, is_started_stage, live_at}
use Rattle.piece_table.specs.Steps.{live_of}
use Rattle.world_acts.specs.declared.state.Core.{Core}
use Rattle.world_acts.specs.declared.open_line.OpenLine.{OpenLine}
use Rattle.world_acts.specs.declared.volumes.Volumes.{Volumes}
use Rattle.world_acts.specs.Acts.{Act, Allowed, Fails, IsFailure, Marks, Reads, World, Writes, after}
use Rattle.world_acts.specs.OpenLines.{after_failure, after_filled, after_finished, filled as filled_work, left_of, open_at, open_of}
use Rattle.world_acts.specs.Orderly.{AreReleased, IsOfLine, IsOrderly}
use Rattle.world_acts.specs.Steps.{after_leaves, after_stays, after_written}
use Rattle.world_acts.proofs.LinesKept.{line_failed}
use Rattle.world_acts.specs.Owners.{line_of, piece_work, values_of}
use Rattle.world_acts.specs.Volumes.{IsPlaced, span_of}
use Rattle.world_acts.proofs.Starting.{work_count}
use Rattle.world_acts.proofs.Tables.{at_number, some_of}
use Rattle.io_core.specs.Rest.{Settles, just, no_one}
use Rattle.io_core.proofs.CalmActs.{calm_weaker, fails_calm, reads_calm, same_calm, wrote_calm}
use Rattle.io_core.proofs.LiveLines.{finished_open, live_left, live_open, set_open}
use Rattle.io_core.proofs.PieceAsks.{is_there, live_is}

-- the piece and its line
pub record OfLine (w : World) (number : ℕ) : Type 0 where
  pub live : LivePiece
  pub at : live_at w.core.pieces.lives number ≡ Some live
  pub is : live_of w.core.pieces number ≡ live
  pub of_line : IsOfLine w.core.opens live
  pub left : 0 < left_of w.core.opens live.line

pub of_line_at : (w : World) (number : ℕ) → IsOrderly w → is_some (live_at w.core.pieces.lives number) ≡ true → OfLine w number
of_line_at w number o among =
    let p = some_of (live_at w.core.pieces.lives number) among in
    record {
      live = p.0;
      at = p.1;
      is = live_is w.core.pieces number p.0 p.1;
      of_line = live_open w number p.0 o p.1;
      left = live_left w number p.0 o p.1;
    }

pub started_there : (w : World) (number : ℕ) → IsOrderly w → is_started w.core.pieces number ≡ true → OfLine w number
started_there w number o started =
    of_line_at w number o (is_there (λ (l : LivePiece). is_started_stage l.stage) w.core.pieces.lives number started)

-- with the disk marked before
pub settles_marked : (w : World) (pv number : ℕ) (acts : List Act) (v : World) → pv < length w.shelf.sizes
    → Settles (after w (Marks pv)) number acts v
    → Settles w number (Marks pv ∷ acts) v
settles_marked w pv number acts v disk s =
    let u : World = after w (Marks pv) in
    record {
      runs = (disk, s.runs);
      calm = λ is. s.calm (same_calm w.core u.core (just number) no_one refl refl refl refl is);
      opened = s.opened;
      barrier = s.barrier;
      released = s.released;
    }

-- a set has what is put into it
pub insert_has : (failed : set.FinSet nat_cmp) (pv : ℕ) → set.contains (set.insert failed pv) pv ≡ true
insert_has failed pv =
    set.contains-insert nat_cmp_total failed pv pv ∙ ap (λ (t : Bool). t || set.contains failed pv) (unsigned_tied pv pv)
    ∙ ap (λ (t : Bool). t || set.contains failed pv) (eq-eqb pv pv refl)

pub settles_failed : (w : World) (number : ℕ) (why : Answer) → IsOrderly w → is_started w.core.pieces number ≡ true
    → flying_at w.core.pieces number ≡ 0
    → IsFailure w.core (live_of w.core.pieces number).piece why
    → Settles w number (Fails number why ∷ []) (after w (Fails number why))
settles_failed w number why o started landed fails =
    let x : LivePiece = live_of w.core.pieces number in
    let p : OfLine w number = started_there w number o started in
    let failed =
    (line_failed w.core.opens p.live.line p.of_line.opened why p.of_line.is_open).lines p.live.line p.of_line.opened p.of_line.is_open in
    record {
      runs = ((started, landed, fails), refl);
      calm =
          λ is. fails_calm w.core number w.shelf.steps why p.live (just x.line) o.tidy.pieces.single p.at (eq-eqb x.line x.line refl)
          (calm_weaker (just number) (just number) no_one (just x.line) w.core (λ q not. not) (λ q not. refl) is);
      opened =
          subst (λ (y : LivePiece). is_some (open_at (after_finished (after_failure w.core.opens y.line why) y.line) y.line) ≡ true)
          (sym p.is)
          (finished_open (after_failure w.core.opens p.live.line why) p.live.line failed.0 failed.1);
      barrier = refl;
      released = λ are. are;
    }

pub settles_read : (w : World) (number : ℕ) (sectors : List (List ℕ)) → IsOrderly w → Allowed w (Reads number sectors)
    → Settles w number (Reads number sectors ∷ []) (after w (Reads number sectors))
settles_read w number sectors o allowed =
    let x : LivePiece = live_of w.core.pieces number in
    let p : OfLine w number = started_there w number o allowed.0 in
    let filled : OpenLine =
    record (open_of w.core.opens p.live.line) {
      work = filled_work (open_of w.core.opens p.live.line).work p.live.piece.first sectors;
    } in
    record {
      runs = (allowed, refl);
      calm =
          λ is. reads_calm w.core number w.shelf.steps sectors p.live (just x.line) o.tidy.pieces.single p.at (eq-eqb x.line x.line refl)
          (calm_weaker (just number) (just number) no_one (just x.line) w.core (λ q not. not) (λ q not. refl) is);
      opened =
          subst (λ (y : LivePiece).
          is_some (open_at (after_finished (after_filled w.core.opens y.line y.piece.first sectors) y.line) y.line) ≡ true)
          (sym p.is)
          (finished_open (after_filled w.core.opens p.live.line p.live.piece.first sectors) p.live.line filled
          (set_open w.core.opens p.live.line p.of_line.opened filled p.of_line.is_open));
      barrier = refl;
      released = λ are. are;
    }

-- ---- a write

-- what no flush in flight serves begins to wait for the next one, if it waits at all
unserved_stays : (d : DiskWaits) (it : Waiting) (stable lost : Bool)
    → (with_waiting d it (cond stable Stable (cond lost Lost Unserved))).served ≡ d.served
unserved_stays d it true lost = refl
unserved_stays d it false true = refl
unserved_stays d it false false = refl

-- all is released that was, where something begins to wait
pub wait_released : (old : Waits) (it : Waiting) (pv : ℕ) → pv < length old.disks
    → ((q : ℕ) → flight_of old.plan q ≡ None → (disk_waits old q).served ≡ [])
    → (q : ℕ)
    → flight_of old.plan q ≡ None
    → (disk_waits (after_wait old it pv) q).served ≡ []
wait_released old it pv within are q none =
    let x : DiskWaits = disk_waits old pv in
    elim (nat_eq pv q) as (λ b. nat_eq pv q ≡ b → (disk_waits (after_wait old it pv) q).served ≡ []) [
      | true ↦ λ t.
          let same : pv ≡ q = eqb-true pv q t in
          let flight : flight_of old.plan pv ≡ None = ap (λ (n : ℕ). flight_of old.plan n) same ∙ none in
          let own : disk_waits (after_wait old it pv) pv ≡ with_waiting x it (awaited old pv it.place) =
          get_or-set_same old.disks pv (with_waiting x it (awaited old pv it.place)) none_waits within in
          let stays : (with_waiting x it (awaited old pv it.place)).served ≡ x.served =
          subst (λ (f : Option InFlight). (with_waiting x it (cond (nat_le it.place (marks_of old.plan pv).stable) Stable
          (cond (nat_le it.place (marks_of old.plan pv).ended) Lost (cond (serves f it.place) Served Unserved)))).served ≡ x.served)
          (sym flight)
          (unserved_stays x it (nat_le it.place (marks_of old.plan pv).stable) (nat_le it.place (marks_of old.plan pv).ended)) in
          subst (λ (n : ℕ). (disk_waits (after_wait old it pv) n).served ≡ []) same
          (ap (λ (d : DiskWaits). d.served) own ∙ stays ∙ are pv flight)
      | false ↦ λ t.
          ap (λ (d : DiskWaits). d.served)
          (get_or-set_other old.disks pv q (with_waiting x it (awaited old pv it.place)) none_waits (λ e. eqb-false pv q t (sym e)))
          ∙ are q none
    ] refl

pub settles_wrote : (w : World) (number pv : ℕ) → IsOrderly w → Allowed w (Writes number pv)
    → Settles w number (Writes number pv ∷ []) (after w (Writes number pv))
settles_wrote w number pv o allowed =
    let c : Core = w.core in
    let x : LivePiece = live_of c.pieces number in
    let p : OfLine w number = started_there w number o allowed.0 in
    let written : Core = after_written c number pv w.shelf.steps in
    let place : ℕ = (marks_of written.waits.plan pv).written in
    let within : pv < length c.waits.disks = let disk = allowed.2 in omega (arith, disk, o.backed.places.many) in
    record {
      runs = (allowed, refl);
      calm =
          λ is. wrote_calm c number pv w.shelf.steps p.live (just x.line) o.tidy.pieces.single p.at (eq-eqb x.line x.line refl)
          (calm_weaker (just number) (just number) no_one (just x.line) c (λ q not. not) (λ q not. refl) is);
      opened =
          cond_both (is_some x.ticket) (after_stays written number pv place) (after_leaves written number pv)
          (λ (d : Core). is_some (open_at d.opens x.line) ≡ true)
          (λ t. subst (λ (y : LivePiece). is_some (open_at c.opens y.line) ≡ true) (sym p.is) (ap is_some p.of_line.is_open))
          (λ t. subst (λ (y : LivePiece). is_some (open_at (after_finished c.opens y.line) y.line) ≡ true) (sym p.is)
          (finished_open c.opens p.live.line p.of_line.opened p.of_line.is_open));
      barrier =
          cond_both (is_some x.ticket) (after_stays written number pv place) (after_leaves written number pv)
          (λ (d : Core). d.barrier ≡ c.barrier) (λ t. refl) (λ t. refl);
      released =
          λ are. cond_both (is_some x.ticket) (after_stays written number pv place) (after_leaves written number pv)
          (λ (d : Core). AreReleased d)
          (λ t. wait_released written.waits (record { waiter = waiter.Piece number; place = place }) pv within are)
          (λ t. are);
    }

-- ---- operations

-- what is known of the operation of a piece
abbrev pub OpIs : List ℕ → Volumes → LivePiece → Op → Type 0
OpIs sizes volumes l (Write span sectors) =
    (l.piece.write ≡ true) × (span.pv < length sizes) × ((span_of volumes l.piece).pv ≡ span.pv)
OpIs sizes volumes l (Read span sectors) =
    (l.piece.write ≡ false) × (length sectors ≡ l.piece.count) × ((span_of volumes l.piece).pv ≡ span.pv)
OpIs sizes volumes l (Flush pv) = ⊥

-- the disk of an operation, or 0
abbrev disk_in : DiskWork → ℕ
disk_in (Writing span sectors) = span.pv
disk_in (Reading span) = span.pv
disk_in (Flushing pv) = pv

-- an operation of a piece is on the disk on which that stands
on_disk : (other : Span) (values : List (List ℕ)) (work : DiskWork) (b : Bool) → work ≡ cond b (Writing other values) (Reading other)
    → other.pv ≡ disk_in work
on_disk other values work true same = sym (ap disk_in same)
on_disk other values work false same = sym (ap disk_in same)

-- a write isn't a read, and a flush is neither
writing_only : (span other : Span) (sectors values : List (List ℕ)) (b : Bool)
    → Writing span sectors ≡ cond b (Writing other values) (Reading other)
    → b ≡ true
writing_only span other sectors values true same = refl
writing_only span other sectors values false same = cc

reading_only : (span other : Span) (values : List (List ℕ)) (b : Bool) → Reading span ≡ cond b (Writing other values) (Reading other)
    → b ≡ false
reading_only span other values true same = cc
reading_only span other values false same = refl

flushing_never : (pv : ℕ) (other : Span) (values : List (List ℕ)) (b : Bool) → Flushing pv ≡ cond b (Writing other values) (Reading other)
    → ⊥
flushing_never pv other values true same = cc
flushing_never pv other values false same = cc

op_is : (c : Core) (sizes : List ℕ) (l : LivePiece) (op : Op) → IsPlaced c.volumes sizes l.piece → work_of op ≡ piece_work c l
    → Lies sizes op
    → OpIs sizes c.volumes l op
op_is c sizes l (Write span sectors) placed same lies = (
  writing_only span (span_of c.volumes l.piece) sectors (values_of (line_of c l) l.piece) l.piece.write same,
  lies.disk,
  on_disk (span_of c.volumes l.piece) (values_of (line_of c l) l.piece) (Writing span sectors) l.piece.write same,
)
op_is c sizes l (Read span sectors) placed same lies =
    let count : span.count ≡ l.piece.count = ap sectors_of_work same ∙ work_count c sizes l placed in (
      reading_only span (span_of c.volumes l.piece) (values_of (line_of c l) l.piece) l.piece.write same,
      lies.buffer ∙ count,
      on_disk (span_of c.volumes l.piece) (values_of (line_of c l) l.piece) (Reading span) l.piece.write same,
    )
op_is c sizes l (Flush pv) placed same lies =
    flushing_never pv (span_of c.volumes l.piece) (values_of (line_of c l) l.piece) l.piece.write same

pub settled_op : (w : World) (number : ℕ) (op : Op) → IsOrderly w → is_started w.core.pieces number ≡ true
    → work_of op ≡ piece_work w.core (live_of w.core.pieces number)
    → Lies w.shelf.sizes op
    → OpIs w.shelf.sizes w.core.volumes (live_of w.core.pieces number) op
settled_op w number op o started works lies =
    let p : OfLine w number = started_there w number o started in
    let placed : IsPlaced w.core.volumes w.shelf.sizes p.live.piece =
    at_number (λ (e : ℕ × LivePiece). IsPlaced w.core.volumes w.shelf.sizes e.1.piece) w.core.pieces.lives number p.live
    o.backed.places.placed p.at in
    subst (λ (l : LivePiece). OpIs w.shelf.sizes w.core.volumes l op) (sym p.is)
    (op_is w.core w.shelf.sizes p.live op placed (works ∙ ap (piece_work w.core) p.is) lies)
