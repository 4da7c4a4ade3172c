-- Marks of the logical volumes that go with a removed one, as they are found in rounds.
use Rattle.std.specs.Prelude.{◌≡◌, ℕ, ◌==◌, ◌||◌, ◌&&◌, Bool, false, not, List, slice_get, IfSome}
use Rattle.std.specs.List.{list_any}
use Rattle.meta_model.specs.Runs.{legs_of}
use Rattle.meta_model.specs.declared.group.Group.{Group}
use Rattle.meta_model.specs.declared.segment.Leg.{Leg}
use Rattle.meta_model.specs.declared.segment.On.{On}
use Rattle.meta_model.specs.declared.segment.On.TheVariants as on
use Rattle.meta_model.specs.declared.segment.Segment.{Segment}
use Rattle.seg_place.specs.Marks.{is_marked}
use Rattle.group_edits.specs.Removing.{has_leg_on, number_after}

-- a volume that isn't marked
abbrev pub unmarked : List Bool → ℕ → Bool
unmarked marks lv = not (is_marked marks lv)

-- the removed volume, and one that is named and isn't held
abbrev pub goes_by : List Bool → List Bool → ℕ → ℕ → Bool
goes_by named held removed lv = lv == removed || (is_marked named lv && not (is_marked held lv))

-- it is the logical volume with this number
abbrev pub on_names : ℕ → On → Bool
on_names lv (on.Pv pv) = false
on_names lv (on.Lv below) = below == lv

-- the leg lies on it
abbrev pub leg_names : ℕ → Leg → Bool
leg_names lv leg = on_names lv leg.on

-- a leg of the segment does
abbrev pub segment_names : ℕ → Segment → Bool
segment_names lv segment = list_any (leg_names lv) (legs_of segment.kind)

-- a leg of an upper volume that isn't marked lies on it
abbrev pub holds : Group → List Bool → ℕ → ℕ → Bool
holds group skipped lv upper = not (is_marked skipped upper) && has_leg_on group lv upper

-- ---- new numbers

-- a table of new numbers, where the marked volumes go: each that stands in it is right
abbrev pub HasNumbers : List Bool → List ℕ → Type 0
HasNumbers goes table = (lv : ℕ) → IfSome (slice_get table lv) (λ number. number ≡ number_after (unmarked goes) lv)
