-- One disk, and a group on it.
use Rattle.std.specs.Prelude.{◌≡◌, ◌≤◌, ◌<◌, ℕ, ◌+◌, ◌*◌, ◌^◌, List, [], ◌∷◌, Some, length, slice_get, slice_index_or}
use Rattle.disk_model.specs.State.{State}
use Rattle.meta_model.specs.declared.group.Group.{Group}
use Rattle.meta_model.specs.declared.pv.Pv.{Pv}

-- it is one disk of 8 to 2^40 sectors, with nothing in flight
pub record IsOneDisk (state : State) : Type 0 where
  pub one : length state.sizes ≡ 1
  pub least : (number : ℕ) → number < length state.sizes → 8 ≤ slice_index_or state.sizes number 0
  pub most : (number : ℕ) → number < length state.sizes → slice_index_or state.sizes number 0 ≤ 2 ^ 40
  pub idle : state.in_flight ≡ []

-- the group has one physical volume, on disk 0, whose extents end within so many sectors
pub record IsWithin (group : Group) (numbers : List ℕ) (sectors : ℕ) : Type 0 where
  pub one : length group.pvs ≡ 1
  pub on : numbers ≡ 0 ∷ []
  pub within : (pv : List ℕ × Pv) → slice_get group.pvs 0 ≡ Some pv → pv.1.pe_start + pv.1.pe_count * group.extent_size ≤ sectors
