-- How large volumes are.
use Rattle.std.specs.Prelude.{ℕ, ◌*◌, List, length, option_map, unwrap_or, slice_get}
use Rattle.meta_model.specs.declared.group.Group.{Group}
use Rattle.meta_model.specs.declared.lv.Lv.{Lv}
use Rattle.volume_rules.specs.Extents.{extents_of}

-- how many sectors the volume with this number has, 0 where there is none
unfoldable pub sectors_of : Group → ℕ → ℕ
sectors_of group lv = unwrap_or (option_map (λ (volume : List ℕ × Lv). extents_of volume.1 * group.extent_size) (slice_get group.lvs lv)) 0

-- how many segments the volume with this number has, 0 where there is none
unfoldable pub segments_in : Group → ℕ → ℕ
segments_in group lv = unwrap_or (option_map (λ (volume : List ℕ × Lv). length volume.1.segments) (slice_get group.lvs lv)) 0
