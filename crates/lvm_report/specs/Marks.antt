-- Which volumes lie on marked ones.
use Rattle.std.specs.Prelude.{ℕ, Bool, false, ◌||◌, List, length, map, slice_index_or}
use Rattle.std.specs.List.{list_any, range_with_len}
use Rattle.meta_model.specs.declared.group.Group.{Group}
use Rattle.meta_model.specs.declared.segment.Leg.{Leg}
use Rattle.meta_model.specs.declared.segment.On.{On}
use Rattle.meta_model.specs.declared.segment.On.TheVariants as on
use Rattle.meta_model.specs.declared.segment.Segment.{Segment}
use Rattle.meta_model.specs.Runs.{legs_of}
use Rattle.volume_rules.specs.Moving.{has_pvmove, named_by}

-- whether this is a logical volume that is marked
abbrev pub is_marked : List Bool → On → Bool
is_marked marked (on.Pv pv) = false
is_marked marked (on.Lv lv) = slice_index_or marked lv false

-- whether one of these legs lies on one
abbrev pub leg_is_marked : List Bool → Leg → Bool
leg_is_marked marked leg = is_marked marked leg.on

-- whether a leg of the segment lies on one
abbrev pub names_marked : List Bool → Segment → Bool
names_marked marked segment = list_any (leg_is_marked marked) (legs_of segment.kind)

-- whether the volume with this number has PVMOVE or lies on one
abbrev pub next_mark : Group → List Bool → ℕ → Bool
next_mark group marked number = has_pvmove group number || list_any (λ lv. slice_index_or marked lv false) (named_by group number)

-- the same of each volume
abbrev pub next_marks : Group → List Bool → List Bool
next_marks group marked = map (next_mark group marked) (range_with_len 0 (length group.lvs))
