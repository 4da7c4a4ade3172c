-- The extents of physical volumes.
use Rattle.std.specs.Prelude.{◌≡◌, ◌≤◌, ◌<◌, ℕ, ◌+◌, ◌*◌, List, Some, slice_get}
use Rattle.sector_base.specs.declared.places.At.{At}
use Rattle.meta_model.specs.declared.group.Group.{Group}
use Rattle.meta_model.specs.declared.pv.Pv.{Pv}

-- the place lies in the extents of a physical volume
pub record IsInExtents (group : Group) (at : At) : Type 0 where
  pub pv : List ℕ × Pv
  pub is_pv : slice_get group.pvs at.pv ≡ Some pv
  pub from : pv.1.pe_start ≤ at.sector
  pub to : at.sector < pv.1.pe_start + pv.1.pe_count * group.extent_size
