-- What a batch that is carried out where nothing else is in flight does to the record.
use Rattle.std.specs.Prelude.{◌≡◌, ◌⊎◌, ℕ, Bool, IsTrue, List, [], ◌++◌, length, map, All, Option}
use Rattle.sector_base.specs.declared.spans.Span.{Span}
use Rattle.disk_model.specs.Steps.{Step, Record, now_after, steps_on}
use Rattle.disk_model.specs.Record.{in_flight_after}
use Rattle.disk_model.specs.CrashValues.{MayLeave}
use Rattle.disk_model.specs.Moments.{Throughout}
use Rattle.disk_model.specs.Durability.{OnlyLeaves, EachOnlyLeaves}
use Rattle.disk_model.specs.Order.{HasFlushed, WritesNothing}
use Rattle.disk_model.specs.InFlight.{IsAmong}
use Rattle.disk_model.specs.Submitting.{writes_at}
use Rattle.disk_model.specs.Since.{writes_submitted, spans_read}
use Rattle.disk_batch.specs.Writes.{IsWrittenBy, write_work}

-- a crash may leave this value in the sector
abbrev pub CanLeave : Record → ℕ → ℕ → List ℕ → Type 0
CanLeave told pv sector value = (write : Option ℕ) × MayLeave told.opened told.steps pv sector write value

-- all that a crash may leave in any sector it could leave there before, or one of these writes writes it there
abbrev pub AddsOnly : Record → List (Span × List (List ℕ)) → Record → Type 0
AddsOnly old puts told = EachOnlyLeaves (λ pv sector value. CanLeave old pv sector value ⊎ IsWrittenBy puts pv sector value) told

-- the writes were submitted and all of them completed, and only then flushes, one of each of these disks, which completed
-- well
pub record FlushesLast (old : Record) (puts : List (Span × List (List ℕ))) (disks : List ℕ) (since : List Step) : Type 0 where
  pub newer : List Step
  pub older : List Step
  pub parts : since ≡ newer ++ older
  pub writes : writes_submitted older ≡ puts
  pub settled : in_flight_after (older ++ old.steps) ≡ []
  pub quiet : WritesNothing newer
  pub flushed : All (λ pv. HasFlushed pv newer) disks

-- the writes were carried out, and where all went well each of these disks was flushed behind them
pub record WritesAll (old : Record) (puts : List (Span × List (List ℕ))) (disks : List ℕ) (well : Bool) (new : Record) : Type 0 where
  -- the record goes on from what it was: these writes were submitted, in their order and each once, and no read
  pub since : List Step
  pub steps : new ≡ steps_on since old
  pub writes : writes_submitted since ≡ puts
  pub reads : spans_read since ≡ []
  -- at every moment a crash may leave only what it could leave before, and what the writes write
  pub adds : Throughout (length old.steps) (length new.steps) new (AddsOnly old puts)
  -- a read gives what it gave, or what a write of the sector wrote
  pub now : (pv sector : ℕ) → (now_after new.opened new.steps pv sector ≡ now_after old.opened old.steps pv sector)
      ⊎ IsWrittenBy puts pv sector (now_after new.opened new.steps pv sector)
  -- where all went well it gives what was written, wherever a write covers the sector
  pub written : IsTrue well → (pv sector : ℕ) → IsTrue (writes_at (map write_work puts) pv sector)
      → IsWrittenBy puts pv sector (now_after new.opened new.steps pv sector)
  -- and of a disk that is flushed a crash may leave nothing else there
  pub lasting : IsTrue well → (pv sector : ℕ) → IsTrue (writes_at (map write_work puts) pv sector) → IsAmong disks pv
      → OnlyLeaves new pv sector (IsWrittenBy puts pv sector)
  -- since each disk was flushed after all writes
  pub flushes : IsTrue well → FlushesLast old puts disks since
