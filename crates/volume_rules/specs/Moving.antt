-- Which volumes a volume's legs name, and which volumes are moving.
use Rattle.std.specs.Prelude.{ℕ, zero, suc, Bool, false, ◌||◌, List, [], Option, None, Some, option_map, unwrap_or, filter_map, slice_get}
use Rattle.std.specs.List.{flat_map, list_any}
use Rattle.meta_model.specs.declared.group.Group.{Group}
use Rattle.meta_model.specs.declared.lv.Lv.{Lv}
use Rattle.meta_model.specs.declared.segment.Leg.{Leg}
use Rattle.meta_model.specs.declared.segment.On.{On}
use Rattle.meta_model.specs.declared.segment.On.TheVariants as on
use Rattle.meta_model.specs.declared.segment.Segment.{Segment}
use Rattle.meta_model.specs.Runs.{legs_of}

-- the number of the logical volume that a leg lies on
abbrev pub lv_number : On → Option ℕ
lv_number (on.Pv pv) = None
lv_number (on.Lv lv) = Some lv

-- the volumes that the legs of a volume name
abbrev pub named_by : Group → ℕ → List ℕ
named_by group lv =
    flat_map
    (λ (segment : Segment). filter_map (λ (leg : Leg). lv_number leg.on) (legs_of segment.kind))
    (unwrap_or (option_map (λ (row : List ℕ × Lv). row.1.segments) (slice_get group.lvs lv)) [])

-- whether the volume has PVMOVE
abbrev pub has_pvmove : Group → ℕ → Bool
has_pvmove group lv = unwrap_or (option_map (λ (row : List ℕ × Lv). row.1.status.pvmove) (slice_get group.lvs lv)) false

-- whether a volume of the group has it: a move stands
abbrev pub has_move : Group → Bool
has_move group = list_any (λ (row : List ℕ × Lv). row.1.status.pvmove) group.lvs

-- whether legs lead down from the volume to the PVMOVE volume, in at most so many steps
abbrev pub leads_to_pvmove : Group → ℕ → ℕ → Bool
leads_to_pvmove group zero lv = has_pvmove group lv
leads_to_pvmove group (suc steps) lv = has_pvmove group lv || list_any (λ below. leads_to_pvmove group steps below) (named_by group lv)
