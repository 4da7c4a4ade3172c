-- How far a batch has brought a sector that it writes.
use Rattle.disk_model.specs.InFlight.{IsAmong, OnlyTheirs}
use Rattle.std.specs.Prelude.{◌≡◌, ◌⊎◌, ℕ, Bool, true, false, IsTrue, List, map, None}
use Rattle.sector_base.specs.declared.spans.Span.{Span}
use Rattle.disk_model.specs.Steps.{Flushing, Record}
use Rattle.disk_model.specs.Record.{Operation, in_flight_after, IsIn}
use Rattle.disk_model.specs.Brought.{writes}
use Rattle.disk_model.specs.Durability.{OnlyLeaves, OnlyLeavesOrCompleted, OnlyLeavesOrOvertaken, OnlyLeavesOrDropped}
use Rattle.disk_model.specs.Submitting.{BringAt, writes_at}
use Rattle.disk_batch.specs.Views.{View}
use Rattle.disk_batch.specs.Writes.{write_work}

-- a write of the sector with one of these tags is in flight
pub record AwaitsWrite (tags : List ℕ) (told : Record) (pv sector : ℕ) : Type 0 where
  pub operation : Operation
  pub awaited : IsAmong tags operation.tag
  pub in_flight : IsIn (in_flight_after told.steps) operation
  pub writes_it : IsTrue (writes operation.work pv sector)

-- a flush of the disk with one of these tags is in flight, and will leave only values with Q in the sector
pub record AwaitsFlush (tags : List ℕ) (told : Record) (pv sector : ℕ) (Q : List ℕ → Type 0) : Type 0 where
  pub flush : ℕ
  pub awaited : IsAmong tags flush
  pub in_flight : IsIn (in_flight_after told.steps) (record { tag = flush; work = Flushing pv })
  pub drops : OnlyLeavesOrDropped told flush pv sector Q

-- one of these writes of the sector is to come, or one with one of these tags is in flight
abbrev pub IsToBeWritten : List (Span × List (List ℕ)) → List ℕ → Record → ℕ → ℕ → Type 0
IsToBeWritten rest tags told pv sector = IsTrue (writes_at (map write_work rest) pv sector) ⊎ AwaitsWrite tags told pv sector

-- before the flushes are submitted a write of the sector is to come, is in flight, or has completed well; then its disk's
-- flush is in flight or has completed well
abbrev pub Stage : List (Span × List (List ℕ)) → Bool → List ℕ → Record → ℕ → ℕ → (List ℕ → Type 0) → Type 0
Stage rest false tags told pv sector Q =
    OnlyLeavesOrOvertaken told pv sector Q ⊎ (OnlyLeavesOrCompleted told pv sector Q × IsToBeWritten rest tags told pv sector)
Stage rest true tags told pv sector Q = OnlyLeaves told pv sector Q ⊎ AwaitsFlush tags told pv sector Q

-- the batch is bringing values with Q to the sector, which nobody else writes, and leaves no other value there
pub record Brings (view : View) (told : Record) (pv sector : ℕ) (Q : List ℕ → Type 0) : Type 0 where
  pub stage : view.lost ≡ None → Stage view.rest view.flushing view.tags told pv sector Q
  pub rest : BringAt (map write_work view.rest) pv sector Q
  pub alone : OnlyTheirs view.tags told pv sector
