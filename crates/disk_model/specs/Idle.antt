-- What calls leave that complete all that they submit.
use Rattle.std.specs.Prelude.{◌≡◌, ◌≤◌, ℕ, ◌+◌, ◌*◌, []}
use Rattle.disk_model.specs.State.{State}

-- nothing is in flight, the disks have their sizes, and no step is taken back
pub record IsIdleAgain (old new : State) : Type 0 where
  pub idle : new.in_flight ≡ []
  pub sizes : new.sizes ≡ old.sizes
  pub later : old.steps ≤ new.steps

-- at most so many operations were carried out, in two steps each, and at most so many operations and sectors used up;
-- nothing is in flight, the disks have their sizes, and no step is taken back
pub record SpendsAtMost (old : State) (ops sectors : ℕ) (new : State) : Type 0 where
  pub idle : new.in_flight ≡ []
  pub sizes : new.sizes ≡ old.sizes
  pub spare_ops : old.spare_ops ≤ new.spare_ops + ops
  pub spare_sectors : old.spare_sectors ≤ new.spare_sectors + sectors
  pub steps : new.steps ≤ old.steps + 2 * ops
  pub later : old.steps ≤ new.steps
