-- What holds at each moment while a shelf goes on, and how it goes on beside a batch.
use Rattle.std.specs.Prelude.{◌≡◌, ◌≤◌, ℕ, Bool, List, length, All, IfSome, option_map}
use Rattle.disk_model.specs.Moments.{Throughout}
use Rattle.disk_model.specs.State.{State}
use Rattle.disk_model.specs.Steps.{Step, Record, steps_on}
use Rattle.disk_batch.specs.Rounds.{IsElsewhere}

-- P holds of what was told at each moment from this one on until these steps more
abbrev pub HoldsSince : (Record → Type 0) → List Step → Record → Type 0
HoldsSince P newer told = Throughout (length told.steps) (length (steps_on newer told).steps) (steps_on newer told) P

-- the shelf went on, and P holds of what was told at each moment of it
pub record AllAlong (P : Record → Type 0) (old new : State) : Type 0 where
  pub newer : List Step
  pub told : new.told ≡ option_map (steps_on newer) old.told
  pub next : old.next_tag ≤ new.next_tag
  pub throughout : IfSome old.told (HoldsSince P newer)

-- the shelf went on by steps that are none of the operations with these tags, and write none of these sectors
pub record GoesElsewhere (mine : ℕ → ℕ → Bool) (tags : List ℕ) (old new : State) : Type 0 where
  pub newer : List Step
  pub told : new.told ≡ option_map (steps_on newer) old.told
  pub elsewhere : All (IsElsewhere mine tags) newer
  pub next : old.next_tag ≤ new.next_tag
  pub faults : (pv : ℕ) → old.faults pv ≤ new.faults pv
