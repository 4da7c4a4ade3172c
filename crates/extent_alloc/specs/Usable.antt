-- The physical volumes that a request may use.
use Rattle.std.specs.Prelude.{ℕ, Bool, false, not, ◌&&◌, ◌||◌, nat_eq, List, [], ◌∷◌, length, filter, slice_get}
use Rattle.std.specs.FinSet as set
use Rattle.std.specs.List.{list_any, range_with_len}
use Rattle.std.specs.Option.{option_map_or}
use Rattle.meta_model.specs.Runs.{legs_of}
use Rattle.meta_model.specs.declared.group.Group.{Group}
use Rattle.meta_model.specs.declared.lv.Lv.{Lv}
use Rattle.meta_model.specs.declared.pv.Pv.{Pv}
use Rattle.meta_model.specs.declared.segment.Leg.{Leg}
use Rattle.meta_model.specs.declared.segment.Segment.{Segment}
use Rattle.extent_map.specs.Covered.{is_on}
use Rattle.extent_alloc.specs.declared.request.Request.{Request}

-- whether the first of the legs lies on the physical volume
abbrev pub first_is_on : ℕ → List Leg → Bool
first_is_on pv [] = false
first_is_on pv (leg ∷ legs) = is_on pv leg.on

-- whether the first leg of the segment lies on the physical volume
abbrev pub begins_on : ℕ → Segment → Bool
begins_on pv segment = first_is_on pv (legs_of segment.kind)

-- whether the logical volume is one of a move, and a segment of it moves from the physical volume
abbrev pub lv_moves_from : ℕ → Lv → Bool
lv_moves_from pv lv = lv.status.pvmove && list_any (begins_on pv) lv.segments

-- the same of a row of the table of logical volumes
abbrev pub moves_from : ℕ → List ℕ × Lv → Bool
moves_from pv row = lv_moves_from pv row.1

-- whether the physical volume is the source of a standing move (pvmove(8))
abbrev pub is_source : Group → ℕ → Bool
is_source group pv = list_any (moves_from pv) group.lvs

-- whether the volume's status is ALLOCATABLE
abbrev pub is_allocatable : Group → ℕ → Bool
is_allocatable group pv = option_map_or (λ (row : List ℕ × Pv). row.1.allocatable) (slice_get group.pvs pv) false

-- whether the volume has the flag MISSING
abbrev pub is_missing : Group → ℕ → Bool
is_missing group pv = option_map_or (λ (row : List ℕ × Pv). row.1.missing) (slice_get group.pvs pv) false

-- whether the request names the volume, or none
abbrev pub is_in_reach : Request → ℕ → Bool
is_in_reach want pv = nat_eq (set.len want.on) 0 || set.contains want.on pv

-- whether the volume may be used by the request's sets
abbrev pub is_wanted : Request → ℕ → Bool
is_wanted want pv = is_in_reach want pv && not (set.contains want.avoid pv)

-- whether a physical volume of the group may be used
abbrev pub is_usable : Group → Request → ℕ → Bool
is_usable group want pv = is_allocatable group pv && not (is_missing group pv) && is_wanted want pv && not (is_source group pv)

-- the numbers of the group's physical volumes
abbrev pub pv_numbers : Group → List ℕ
pv_numbers group = range_with_len 0 (length group.pvs)

-- the numbers of those that may be used, in the order of the text
abbrev pub usable_pvs : Group → Request → List ℕ
usable_pvs group want = filter (is_usable group want) (pv_numbers group)
