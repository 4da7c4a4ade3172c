-- Reads that met no write of their sectors, as operations come and go.
use Rattle.std.proofs.Common.{◌≡◌, ℕ, Bool, true, false, IsTrue, nat_eq, not, List, [], ◌∷◌, ◌++◌, All, filter, Option, Some, IfSome}
use Rattle.std.proofs.Common.{refl, sym, ap, subst, ◌∙◌}
use Rattle.std.proofs.lemmas.Bool.{eqb-false, eqb-true}
use Rattle.std.proofs.lemmas.Option.{none-some, same_Some}
use Rattle.sector_base.specs.declared.spans.Span.{Span}
use Rattle.sector_base.specs.Spans.{covers}
use Rattle.list_laws.proofs.Members.{in_list}
use Rattle.disk_model.specs.declared.ops.Done.{Done}
use Rattle.disk_model.specs.declared.ops.Op.{Op}
use Rattle.disk_model.specs.declared.ops.Op.TheVariants.{Flush as FlushOp, Read as ReadOp, Write as WriteOp}
use Rattle.disk_model.specs.Brought.{writes}
use Rattle.disk_model.specs.Calls.{Completes, Submits}
use Rattle.disk_model.specs.Operations.{work_of}
use Rattle.disk_model.specs.Reading.{IsAlone, Reads, ReadsAll}
use Rattle.disk_model.specs.Record.{Operation, in_flight_after}
use Rattle.disk_model.specs.State.{IsLawful, State}
use Rattle.disk_model.specs.Steps.{Completed, Flushing, Reading, Record, Submitted, step_on}
use Rattle.world_acts.specs.Acts.{Allowed, AsksFlush, World}
use Rattle.world_acts.specs.Orderly.{IsOrderly}
use Rattle.world_acts.specs.Owners.{in_flight_at}
use Rattle.world_acts.proofs.Known.{fresh_unknown, known_gone, known_last, known_left, known_more}
use Rattle.world_history.specs.Alone.{AreAlone}
use Rattle.world_history.proofs.Contents.Tagged.{tagged}

-- ---- a read that completed

reads_whole : (told : Record) (tag : ℕ) (op : Op) (well : Bool) → Reads told tag op well
    → ((span : Span) → work_of op ≡ Reading span → (pv sector : ℕ) → IsTrue (covers span pv sector) → IsAlone told.steps tag pv sector)
    → ReadsAll told op well
reads_whole told tag (ReadOp span buffer) true reads alone = λ pv sector is. reads pv sector is (alone span refl pv sector is)
reads_whole told tag (ReadOp span buffer) false reads alone = tt
reads_whole told tag (WriteOp span sectors) well reads alone = tt
reads_whole told tag (FlushOp pv) well reads alone = tt

-- it has what stands in each of its sectors
pub read_whole : (s now : State) (done : Done) (told : Record) → IsLawful s → s.told ≡ Some told → Completes s done now → AreAlone s told
    → ReadsAll told done.op done.well
read_whole s now done told lawful is completes alone =
    reads_whole told done.tag done.op done.well
    (subst (λ (t : Option Record). IfSome t (λ (r : Record). Reads r done.tag done.op done.well)) is completes.reads)
    (λ span reading. alone done.tag span
    (tagged s.in_flight (record { tag = done.tag; work = work_of done.op }) lawful.order (in_list s.in_flight _ completes.was)
    ∙ ap Some reading))

-- those that are left are alone still
pub alone_ends : (s now : State) (done : Done) (told : Record) (fresh : List Bool) → Completes s done now → AreAlone s told
    → AreAlone now (step_on (Completed done.tag (work_of done.op) done.well fresh) told)
alone_ends s now done told fresh completes alone tag span at = by (nat_eq done.tag tag) refl
  where
    left : in_flight_at (filter (λ (o : Operation). not (nat_eq o.tag done.tag)) s.in_flight) tag ≡ Some (Reading span)
    left = subst (λ (ops : List Operation). in_flight_at ops tag ≡ Some (Reading span)) completes.in_flight at

    by : (b : Bool) → nat_eq done.tag tag ≡ b → (pv sector : ℕ) → IsTrue (covers span pv sector) → IsAlone told.steps tag pv sector
    by true same =
        absurd (none-some (Reading span) (sym (known_gone s.in_flight tag)
        ∙ subst (λ (t : ℕ). in_flight_at (filter (λ (o : Operation). not (nat_eq o.tag t)) s.in_flight) tag ≡ Some (Reading span))
        (eqb-true done.tag tag same) left))
    by false apart = alone tag span (sym (known_left s.in_flight done.tag tag apart) ∙ left)

-- ---- an operation that is submitted

-- where it writes no sector of a read in flight, and, where it is a read, none in flight writes a sector of it
pub alone_submits : (s now : State) (op : Op) (tag : ℕ) (told : Record) → IsLawful s → Submits s op tag now → AreAlone s told
    → ((span : Span) (pv sector : ℕ) → work_of op ≡ Reading span → IsTrue (covers span pv sector)
    → All (λ (o : Operation). writes o.work pv sector ≡ false) (in_flight_after told.steps))
    → ((q : ℕ) (span : Span) (pv sector : ℕ) → in_flight_at s.in_flight q ≡ Some (Reading span) → IsTrue (covers span pv sector)
    → writes (work_of op) pv sector ≡ false)
    → AreAlone now (step_on (Submitted tag (work_of op)) told)
alone_submits s now op tag told lawful submits alone own others q span at pv sector is = by (nat_eq tag q) refl
  where
    more : in_flight_at (s.in_flight ++ record { tag = tag; work = work_of op } ∷ []) q ≡ Some (Reading span)
    more = subst (λ (ops : List Operation). in_flight_at ops q ≡ Some (Reading span)) submits.in_flight at

    by : (b : Bool) → nat_eq tag q ≡ b → IsAlone (Submitted tag (work_of op) ∷ told.steps) q pv sector
    by true same =
        let e : tag ≡ q = eqb-true tag q same in
        let last = known_last s.in_flight tag (work_of op) (fresh_unknown s tag lawful submits.fresh) in
        let reading : work_of op ≡ Reading span =
        same_Some (work_of op) (Reading span)
        (sym last ∙ subst (λ (t : ℕ). in_flight_at (s.in_flight ++ record { tag = tag; work = work_of op } ∷ []) t ≡ Some (Reading span))
        (sym e) more) in
        (λ f. own span pv sector reading is, λ apart. absurd (apart e))
    by false apart =
        let before : in_flight_at s.in_flight q ≡ Some (Reading span) = sym (known_more s.in_flight tag (work_of op) q apart) ∙ more in (
          λ same. absurd (eqb-false tag q apart same),
          λ other. (others q span pv sector before is, alone q span before pv sector is),
        )

-- where it is a flush
pub alone_flush : (w : World) (pv tag : ℕ) (now : State) (told : Record) → IsOrderly w → Allowed w (AsksFlush pv tag now)
    → w.shelf.told ≡ Some told
    → AreAlone w.shelf told
    → AreAlone now (step_on (Submitted tag (Flushing pv)) told)
alone_flush w pv tag now told o allowed is alone =
    alone_submits w.shelf now (FlushOp pv) tag told o.backed.lawful allowed.0 alone
    (λ span p sector reading covered. absurd (no_flush pv span reading))
    (λ q span p sector at covered. refl)
  where
    no_flush : (disk : ℕ) (span : Span) → Flushing disk ≡ Reading span → ⊥
    no_flush disk span e = cc
