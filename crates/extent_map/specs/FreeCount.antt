-- How many extents of a physical volume lie in no leg.
use Rattle.std.specs.Prelude.{ℕ, ◌-◌, List, option_map, unwrap_or, slice_get}
use Rattle.meta_model.specs.declared.group.Group.{Group}
use Rattle.meta_model.specs.declared.pv.Pv.{Pv}
use Rattle.extent_map.specs.Covered.{extents_in, lvs_on}

-- how many extents the physical volume with this number has
abbrev pub all_extents : Group → ℕ → ℕ
all_extents group pv = unwrap_or (option_map (λ (row : List ℕ × Pv). row.1.pe_count) (slice_get group.pvs pv)) 0

-- and how many of them the legs leave
abbrev pub free_extents : Group → ℕ → ℕ
free_extents group pv = all_extents group pv - extents_in (lvs_on pv group.lvs)
