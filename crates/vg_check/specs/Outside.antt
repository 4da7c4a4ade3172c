-- Legs that don't lie within the volumes that they name.
use Rattle.std.specs.Prelude.{◌≡◌, ℕ, ◌+◌, List, Some, slice_get, All}
use Rattle.meta_model.specs.declared.group.Group.{Group}
use Rattle.meta_model.specs.declared.segment.Leg.{Leg}
use Rattle.meta_model.specs.declared.segment.Segment.{Segment}
use Rattle.meta_model.specs.Runs.{legs_of}
use Rattle.volume_rules.specs.Extents.{leg_share}
use Rattle.volume_rules.specs.Rules.{LiesWithin}

-- what the leg of the segment covers lies within the volume that it names
abbrev pub LegLiesInside : Group → Segment → Leg → Type 0
LegLiesInside group segment leg = LiesWithin group leg.on (leg.first + leg_share segment.count segment.kind)

-- so does what each of its legs covers
abbrev pub LegsLieInside : Group → Segment → Type 0
LegsLieInside group segment = All (LegLiesInside group segment) (legs_of segment.kind)

-- one of its legs doesn't
abbrev pub HasLegOutside : Group → Segment → Type 0
HasLegOutside group segment =
    (number : ℕ) × (leg : Leg) × (slice_get (legs_of segment.kind) number ≡ Some leg) × (LegLiesInside group segment leg → ⊥)

-- the segment with this number has one
abbrev pub SegmentFails : Group → List Segment → ℕ → Type 0
SegmentFails group segments at = (segment : Segment) × (slice_get segments at ≡ Some segment) × HasLegOutside group segment
