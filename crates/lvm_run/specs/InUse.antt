-- A session takes all its disks, but none that is in use, unless it is forced.
use Rattle.std.specs.Prelude.{◌≡◌, ◌≢◌, ◌<◌, ℕ, false, List, length, All, Some}
use Rattle.sector_base.specs.declared.spans.Span.{Span}
use Rattle.disk_model.specs.Since.{writes_submitted}
use Rattle.disk_model.specs.State.{State}
use Rattle.disk_model.specs.Steps.{Step, Record, now_after, steps_on}
use Rattle.vg_scan.specs.Scans.{HoldsNow}
use Rattle.disk_use.specs.Uses.{IsFree}

-- no write to this disk was submitted
pub record IsLeft (pv : ℕ) (old new : Record) : Type 0 where
  pub since : List Step
  pub steps : new ≡ steps_on since old
  pub none : All (λ (write : Span × List (List ℕ)). write.0.pv ≢ pv) (writes_submitted since)

-- none of the disks is in use, where they tell their record
abbrev pub AreAllFree : State → Type 0
AreAllFree state = HoldsNow state.told (λ image. (pv : ℕ) → pv < length state.sizes → IsFree false image state.sizes pv)

-- none that is in use was written, where the disks tell their record
abbrev pub LeavesInUse : State → State → Type 0
LeavesInUse old new =
    (pv : ℕ) (before : Record) → old.told ≡ Some before → pv < length old.sizes
    → ¬ IsFree false (now_after before.opened before.steps) old.sizes pv
    → (after : Record) × (new.told ≡ Some after) × IsLeft pv before after
