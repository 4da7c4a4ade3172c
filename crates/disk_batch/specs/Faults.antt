-- What a batch that lost an operation says of the counts of faults.
use Rattle.std.specs.Prelude.{◌≡◌, ◌≤◌, ◌<◌, ℕ, Option, Some, None}
use Rattle.disk_model.specs.State.{State}
use Rattle.disk_model.specs.Faults.{HasSameFaults}

-- no count is below what it was, and that of the disk on which an operation was lost is above
pub record FaultsSince (faults : ℕ → ℕ) (lost : Option ℕ) (state : State) : Type 0 where
  pub rise : (pv : ℕ) → faults pv ≤ state.faults pv
  pub lost_rose : (pv : ℕ) → lost ≡ Some pv → faults pv < state.faults pv

-- the same where nothing else is in flight: where no operation was lost no count rose
abbrev pub FaultsAlone : State → Option ℕ → State → Type 0
FaultsAlone old lost new = FaultsSince old.faults lost new × (lost ≡ None → HasSameFaults old new)
