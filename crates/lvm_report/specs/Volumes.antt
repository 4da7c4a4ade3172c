-- What reports say of the volumes of a group.
use Rattle.std.specs.Prelude.{ℕ, Bool, if◌then◌else◌, nat_lt, Option, None, Some, List, [], ◌∷◌, length, codes, filter, map, sum_by}
use Rattle.std.specs.List.{enumerate_from, position, range_with_len}
use Rattle.std.specs.FinMap as map
use Rattle.std.specs.Str.{bytes_eq}
use Rattle.id_index.specs.Ids.{IdNumbers, pvs_by_id}
use Rattle.extent_map.specs.FreeCount.{free_extents}
use Rattle.meta_model.specs.declared.group.Group.{Group}
use Rattle.meta_model.specs.declared.lv.Lv.{Lv}
use Rattle.meta_model.specs.declared.pv.Pv.{Pv}
use Rattle.meta_model.specs.declared.segment.Segment.{Segment}
use Rattle.meta_model.specs.declared.segment.SegKind.{SegKind}
use Rattle.meta_model.specs.declared.segment.SegKind.TheVariants.{Striped, Mirror}
use Rattle.volume_rules.specs.Moving.{leads_to_pvmove}

-- the number of the group's physical volume with this id, if it lists one
abbrev pub number_with : Group → List ℕ → Option ℕ
number_with group id = position (λ (pv : List ℕ × Pv). bytes_eq pv.1.id id) group.pvs

-- the numbers of the physical volumes of a group by their ids, where there is a group
abbrev pub numbers_in : Option Group → IdNumbers
numbers_in None = map.empty
numbers_in (Some group) = pvs_by_id 0 group.pvs

-- the extents of all physical volumes
abbrev pub extents_of_group : Group → ℕ
extents_of_group group = sum_by (λ (pv : List ℕ × Pv). pv.1.pe_count) group.pvs

-- those of them that lie in no leg
abbrev pub free_of_group : Group → ℕ
free_of_group group = sum_by (free_extents group) (range_with_len 0 (length group.pvs))

-- the visible volumes, each with its number; hidden ones, which legs name, aren't counted
abbrev pub visible_volumes : Group → List (ℕ × (List ℕ × Lv))
visible_volumes group = filter (λ (lv : ℕ × (List ℕ × Lv)). lv.1.1.status.visible) (enumerate_from 0 group.lvs)

-- the kind of a volume by its first segment
abbrev pub segment_kind : SegKind → List ℕ
segment_kind (Striped stripe legs) = if nat_lt 1 (length legs) then codes "stripe" else codes "linear"
segment_kind (Mirror region moved legs) = codes "mirror"

-- the same of a volume with these segments
abbrev pub first_kind : List Segment → List ℕ
first_kind [] = codes "linear"
first_kind (segment ∷ segments) = segment_kind segment.kind

-- the kind of the volume with this number: of one that legs lead down from to the volume of a move, that it is moving
abbrev pub kind_of : Group → ℕ → Lv → List ℕ
kind_of group number lv = if leads_to_pvmove group 4 number then codes "moving" else first_kind lv.segments

-- of each volume, whether legs lead down from it to the volume of a move in at most so many steps
abbrev pub leading_down : Group → ℕ → List Bool
leading_down group steps = map (leads_to_pvmove group steps) (range_with_len 0 (length group.lvs))
