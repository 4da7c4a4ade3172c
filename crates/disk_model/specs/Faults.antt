-- Which operations failed in a call.
use Rattle.std.specs.Prelude.{◌≡◌, ◌≢◌, ℕ, ◌+◌, false, List, ◌∷◌, IfSome}
use Rattle.disk_model.specs.Steps.{Work, Step, Completed, disk_of_work}
use Rattle.disk_model.specs.State.{State}

-- no operation failed
abbrev pub HasSameFaults : State → State → Type 0
HasSameFaults old new = (pv : ℕ) → new.faults pv ≡ old.faults pv

-- the newest step is the completion of this work, which failed
abbrev pub EndsInFault : Work → List Step → Type 0
EndsInFault work (Completed tag done false fresh ∷ steps) = done ≡ work
EndsInFault work _ = ⊥

-- one operation failed: this work on this disk, which was the last step
pub record IsLastFault (old new : State) (pv : ℕ) (work : Work) : Type 0 where
  pub disk : pv ≡ disk_of_work work
  pub one : new.faults pv ≡ old.faults pv + 1
  pub others : (other : ℕ) → (other ≢ pv) → new.faults other ≡ old.faults other
  pub last : IfSome new.told (λ told. EndsInFault work told.steps)
