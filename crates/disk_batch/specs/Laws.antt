-- What a batch has made sure of a sector, step by step, where nobody else writes it.
use Rattle.std.specs.Prelude.{◌≡◌, ◌⊎◌, ℕ, Bool, true, false, IsTrue, List, [], ◌∷◌, ◌++◌, None, Some, map}
use Rattle.sector_base.specs.declared.spans.Span.{Span}
use Rattle.disk_model.specs.Steps.{Work, Flushing, Step, Completed, Record, step_on}
use Rattle.disk_model.specs.Record.{Operation, IsRecord}
use Rattle.disk_model.specs.Brought.{brings}
use Rattle.disk_model.specs.Durability.{OnlyLeaves}
use Rattle.disk_model.specs.declared.ops.Done.{Done}
use Rattle.disk_model.specs.Calls.{Completes}
use Rattle.disk_model.specs.State.{State}
use Rattle.disk_batch.specs.Views.{View, done_on}
use Rattle.disk_batch.specs.Batches.{after_done}
use Rattle.disk_batch.specs.Faults.{FaultsSince}
use Rattle.disk_batch.specs.Progress.{Brings}
use Rattle.disk_batch.specs.Writes.{write_work}
use Rattle.disk_model.specs.Submitting.{submitted_on, works_of, writes_at, BringAt}
use Rattle.disk_model.specs.State.{tags_of}
use Rattle.disk_model.specs.InFlight.{IsAmong, IsStill, IsForeign}

-- it is this value
abbrev pub Is : List ℕ → List ℕ → Type 0
Is value v = v ≡ value

-- a batch that writes the value to a sector that nobody writes, now or later, brings it there
abbrev pub StartsBringing : Type 0
StartsBringing =
    (os : List Operation) (flush : List ℕ) (rest : List (Span × List (List ℕ))) (told : Record) (pv sector : ℕ) (value : List ℕ)
    → IsTrue (writes_at (works_of os) pv sector) ⊎ IsTrue (writes_at (map write_work rest) pv sector)
    → BringAt (works_of os) pv sector (Is value) → BringAt (map write_work rest) pv sector (Is value) → IsStill told pv sector
    → Brings (record { tags = tags_of os; flush = flush; flushing = false; lost = None; rest = rest }) (submitted_on os told) pv sector
    (Is value)

-- a step of somebody else that brings nothing to the sector leaves it so
abbrev pub StaysElsewhere : Type 0
StaysElsewhere =
    (view : View) (told : Record) (pv sector : ℕ) (value : List ℕ) (step : Step) → brings step pv sector ≡ false → IsForeign view.tags step
    → Brings view told pv sector (Is value) → Brings view (step_on step told) pv sector (Is value)

-- a completion of its own, well or not, leaves it so
abbrev pub GoesOn : Type 0
GoesOn =
    (view : View) (told : Record) (pv sector : ℕ) (value : List ℕ) (tag disk : ℕ) (work : Work) (well : Bool) (fresh : List Bool)
    → IsRecord (step_on (Completed tag work well fresh) told).steps
    → Brings view told pv sector (Is value) → Brings (done_on tag disk well view) (step_on (Completed tag work well fresh) told) pv sector
    (Is value)

-- the submission of the next of its writes to come leaves it so
abbrev pub GoesOnWriting : Type 0
GoesOnWriting =
    (view : View) (put : Span × List (List ℕ)) (puts : List (Span × List (List ℕ))) (o : Operation) (told : Record) (pv sector : ℕ)
    (value : List ℕ) → view.rest ≡ put ∷ puts
    → view.flushing ≡ false → o.work ≡ write_work put → Brings view told pv sector (Is value)
    → Brings (record view { tags = view.tags ++ o.tag ∷ []; rest = puts }) (submitted_on (o ∷ []) told) pv sector (Is value)

-- the submission of the flushes, one of them of the disk, leaves it so
abbrev pub BeginsFlushes : Type 0
BeginsFlushes =
    (view : View) (os : List Operation) (told : Record) (pv sector : ℕ) (value : List ℕ) → view.tags ≡ [] → view.flushing ≡ false
    → view.lost ≡ None → view.rest ≡ [] → works_of os ≡ map Flushing view.flush → IsAmong view.flush pv
    → Brings view told pv sector (Is value) → Brings (record view { tags = tags_of os; flushing = true }) (submitted_on os told) pv sector
    (Is value)

-- once it is through, a crash can leave no other value there
abbrev pub EndsWell : Type 0
EndsWell =
    (view : View) (told : Record) (pv sector : ℕ) (value : List ℕ) → view.tags ≡ [] → view.flushing ≡ true → view.lost ≡ None
    → Brings view told pv sector (Is value) → OnlyLeaves told pv sector (Is value)

-- a completion that failed makes its disk the lost one, and one that went well changes nothing of that
abbrev pub LosesOnFailure : Type 0
LosesOnFailure =
    (view : View) (tag disk : ℕ) → ((done_on tag disk false view).lost ≡ Some disk) × ((done_on tag disk true view).lost ≡ view.lost)

-- so the count of faults of the lost disk has risen since the batch started
abbrev pub LostHasRisen : Type 0
LostHasRisen =
    (faults : ℕ → ℕ) (view : View) (old new : State) (done : Done) → Completes old done new → FaultsSince faults view.lost old
    → FaultsSince faults (after_done view done).lost new
