-- Where a group breaks a rule.
use Rattle.std.specs.Prelude.{◌≡◌, ℕ, ◌+◌, ◌*◌, ◌^◌, ◌<◌, List, Some, slice_get, Contains}
use Rattle.meta_model.specs.declared.group.Group.{Group}
use Rattle.meta_model.specs.declared.lv.Lv.{Lv}
use Rattle.meta_model.specs.declared.segment.Segment.{Segment}
use Rattle.volume_rules.specs.Extents.{extents_of}
use Rattle.volume_rules.specs.Legs.{LegRun, runs_of}
use Rattle.volume_rules.specs.Rules.{FitsDevice, Follow, IsWholeMirror, IsWholeStriped, Keeps, LiesWithin, MovedIsAllowed}
use Rattle.volume_rules.specs.declared.rule.Rule.{Rule}
use Rattle.volume_rules.specs.declared.rule.Rule.TheVariants.{Extents, Follows, Stripes, Mirrors, Within, Moved}

-- the row with this number isn't as each of them has to be
abbrev pub FailsAt : {A : Type 0} → (A → Type 0) → List A → ℕ → Type 0
FailsAt {A} Good rows at = (row : A) × (slice_get rows at ≡ Some row) × (Good row → ⊥)

-- nor is this segment of the logical volume with this number
abbrev pub SegmentFailsAt : (Lv → Segment → Type 0) → Group → ℕ → ℕ → Type 0
SegmentFailsAt Good group at other = (row : List ℕ × Lv) × (slice_get group.lvs at ≡ Some row) × FailsAt (Good row.1) row.1.segments other

-- The group breaks the rule at these places: of a rule on volumes, the number of the volume and 0; of one on segments or
-- legs, the numbers of the logical volume and of its segment; of any other rule, 0 and 0.
abbrev pub IsOffence : Group → Rule → ℕ → ℕ → Type 0
IsOffence group Extents at other = (other ≡ 0) × FailsAt (λ pv. FitsDevice group.extent_size pv.1) group.pvs at
IsOffence group Follows at other =
    (other ≡ 0) × FailsAt (λ lv. Follow 0 lv.1.segments × (extents_of lv.1 * group.extent_size < 2 ^ 48)) group.lvs at
IsOffence group Stripes at other = SegmentFailsAt (λ lv segment. IsWholeStriped group.extent_size segment.count segment.kind) group at other
IsOffence group Mirrors at other = SegmentFailsAt (λ lv segment. IsWholeMirror segment.kind) group at other
IsOffence group Within at other =
    (run : LegRun) × Contains (runs_of group) run × (run.lv ≡ at) × (run.segment ≡ other)
    × (LiesWithin group run.on (run.first + run.count) → ⊥)
IsOffence group Moved at other = SegmentFailsAt (λ lv segment. MovedIsAllowed lv.status.pvmove segment.count segment.kind) group at other
IsOffence group rule at other = (at ≡ 0) × (other ≡ 0) × (Keeps group rule → ⊥)
