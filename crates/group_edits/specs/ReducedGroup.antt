-- A group without a physical volume (vgreduce(8)).
use Rattle.std.specs.Prelude.{ℕ, ◌-◌, ◌==◌, Bool, false, nat_lt, if◌then◌else◌, List, map}
use Rattle.std.specs.List.{list_any, remove}
use Rattle.meta_model.specs.Runs.{legs_of}
use Rattle.meta_model.specs.declared.group.Group.{Group}
use Rattle.meta_model.specs.declared.lv.Lv.{Lv}
use Rattle.meta_model.specs.declared.segment.Leg.{Leg}
use Rattle.meta_model.specs.declared.segment.On.{On}
use Rattle.meta_model.specs.declared.segment.On.TheVariants as on
use Rattle.meta_model.specs.declared.segment.Segment.{Segment}
use Rattle.group_edits.specs.NextVersion.{with_lvs}
use Rattle.group_edits.specs.Renumbered.{renumbered_row}

-- ---- what lies on it

-- it is the physical volume with this number
abbrev pub is_on_pv : ℕ → On → Bool
is_on_pv number (on.Pv pv) = pv == number
is_on_pv number (on.Lv lv) = false

-- the leg lies on it
abbrev pub leg_is_on_pv : ℕ → Leg → Bool
leg_is_on_pv number leg = is_on_pv number leg.on

-- a leg of the segment does
abbrev pub segment_is_on_pv : ℕ → Segment → Bool
segment_is_on_pv number segment = list_any (leg_is_on_pv number) (legs_of segment.kind)

-- a leg of the volume does
abbrev pub lies_on_pv : ℕ → Lv → Bool
lies_on_pv number lv = list_any (segment_is_on_pv number) lv.segments

-- a leg of a volume of the group does
abbrev pub has_leg_on_pv : Group → ℕ → Bool
has_leg_on_pv group number = list_any (λ (row : List ℕ × Lv). lies_on_pv number row.1) group.lvs

-- ---- the group without it

-- the number of a row of a table once another row was taken out: those behind it move up by one
abbrev pub number_without : ℕ → ℕ → ℕ
number_without removed number = if nat_lt removed number then number - 1 else number

-- a volume by its number, once the physical volume with this number was taken out
abbrev pub on_without_pv : ℕ → On → On
on_without_pv removed (on.Pv pv) = on.Pv (number_without removed pv)
on_without_pv removed (on.Lv lv) = on.Lv lv

-- the next version of the group, without the physical volume with this number
abbrev pub reduced_group : Group → ℕ → Group
reduced_group group number =
    record (with_lvs group (map (renumbered_row (on_without_pv number)) group.lvs)) { pvs = remove group.pvs number }
