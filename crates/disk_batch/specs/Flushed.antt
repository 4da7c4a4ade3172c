-- That a batch has flushed its disks since it started.
use Rattle.std.specs.Prelude.{◌≡◌, ◌≤◌, ◌⊎◌, ℕ, true, List, [], ◌∷◌, None}
use Rattle.disk_model.specs.Steps.{Flushing, Step, Completed, Record}
use Rattle.disk_model.specs.Record.{in_flight_after, IsIn}
use Rattle.disk_batch.specs.Views.{View}
use Rattle.disk_model.specs.InFlight.{IsAmong}

-- a flush of the disk with this tag or a later one has completed well
abbrev pub HasFlushedSince : ℕ → ℕ → List Step → Type 0
HasFlushedSince from pv [] = ⊥
HasFlushedSince from pv (Completed tag (Flushing disk) true fresh ∷ steps) = ((disk ≡ pv) × (from ≤ tag)) ⊎ HasFlushedSince from pv steps
HasFlushedSince from pv (_ ∷ steps) = HasFlushedSince from pv steps

-- such a flush is in flight
pub record AwaitsFlushSince (tags : List ℕ) (told : Record) (from pv : ℕ) : Type 0 where
  pub flush : ℕ
  pub awaited : IsAmong tags flush
  pub in_flight : IsIn (in_flight_after told.steps) (record { tag = flush; work = Flushing pv })
  pub since : from ≤ flush

-- once the flushes are submitted, that of this disk is in flight or has completed well
pub record FlushesSince (view : View) (told : Record) (from pv : ℕ) : Type 0 where
  pub stage : view.lost ≡ None → view.flushing ≡ true → HasFlushedSince from pv told.steps ⊎ AwaitsFlushSince view.tags told from pv
