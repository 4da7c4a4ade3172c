-- Volumes by their numbers.
use Rattle.std.specs.Prelude.{◌≡◌, ℕ, List, Some, slice_get}
use Rattle.meta_model.specs.declared.group.Group.{Group}
use Rattle.meta_model.specs.declared.pv.Pv.{Pv}

-- the physical volume with this number
abbrev pub IsPv : Group → ℕ → Pv → Type 0
IsPv group number pv = (name : List ℕ) × (slice_get group.pvs number ≡ Some (name, pv))
