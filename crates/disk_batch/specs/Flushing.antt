-- All disks are flushed, and nothing else is done.
use Rattle.std.specs.Prelude.{◌≡◌, ◌<◌, ℕ, Bool, IsTrue, List, []}
use Rattle.disk_model.specs.Order.{HasFlushed, WritesNothing}
use Rattle.disk_model.specs.Since.{spans_read}
use Rattle.disk_model.specs.Steps.{IsSame, Step, Record, now_after, steps_on}

-- nothing was read or written, and where all went well a flush of each of so many disks has completed well
pub record FlushesAll (disks : ℕ) (well : Bool) (old new : Record) : Type 0 where
  pub since : List Step
  pub steps : new ≡ steps_on since old
  pub nothing : WritesNothing since
  pub unread : spans_read since ≡ []
  pub same : IsSame (now_after new.opened new.steps) (now_after old.opened old.steps)
  pub flushed : IsTrue well → (pv : ℕ) → pv < disks → HasFlushed pv since
