-- What a group's offence says: it doesn't keep the rule.
use Rattle.std.proofs.Common.{ℕ, List, ◌*◌, ◌+◌, ◌^◌, ◌<◌, All}
use Rattle.std.proofs.lemmas.List.Elements.{All-contains}
use Rattle.meta_model.specs.declared.group.Group.{Group}
use Rattle.meta_model.specs.declared.pv.Pv.{Pv}
use Rattle.meta_model.specs.declared.lv.Lv.{Lv}
use Rattle.meta_model.specs.declared.segment.Segment.{Segment}
use Rattle.volume_rules.specs.Extents.{extents_of}
use Rattle.volume_rules.specs.Legs.{LegRun, runs_of}
use Rattle.volume_rules.specs.Offences.{FailsAt, IsOffence, SegmentFailsAt}
use Rattle.volume_rules.specs.Rules.{FitsDevice, Follow, IsWholeMirror, IsWholeStriped, Keeps, LiesWithin, MovedIsAllowed}
use Rattle.volume_rules.specs.declared.rule.Rule.{Rule}
use Rattle.volume_rules.specs.declared.rule.Rule.TheVariants.{Numbers, Ids, Volumes, Segments, Extents, Follows, Stripes, Mirrors, Within}
use Rattle.volume_rules.specs.declared.rule.Rule.TheVariants.{Apart, Depth, Moved, Pvmove, Locked}
use Rattle.list_laws.proofs.ItemWalks.{row_of_all}

row_fails : {A : Type 0} (Good : A → Type 0) (rows : List A) (at : ℕ) → FailsAt Good rows at → All Good rows → ⊥
row_fails Good rows at fails all = fails.2 (row_of_all Good rows at fails.0 fails.1 all)

segment_fails : (Good : Lv → Segment → Type 0) (group : Group) (at other : ℕ) → SegmentFailsAt Good group at other
    → All (λ (row : List ℕ × Lv). All (Good row.1) row.1.segments) group.lvs → ⊥
segment_fails Good group at other fails all =
    row_fails (Good fails.0.1) fails.0.1.segments other fails.2
    (row_of_all (λ (row : List ℕ × Lv). All (Good row.1) row.1.segments) group.lvs at fails.0 fails.1 all)

pub offence_breaks : (group : Group) (rule : Rule) (at other : ℕ) → IsOffence group rule at other → Keeps group rule → ⊥
offence_breaks group Numbers at other offence = offence.2
offence_breaks group Ids at other offence = offence.2
offence_breaks group Volumes at other offence = offence.2
offence_breaks group Segments at other offence = offence.2
offence_breaks group Extents at other offence = row_fails (λ (pv : List ℕ × Pv). FitsDevice group.extent_size pv.1) group.pvs at offence.1
offence_breaks group Follows at other offence =
    row_fails (λ (lv : List ℕ × Lv). Follow 0 lv.1.segments × (extents_of lv.1 * group.extent_size < 2 ^ 48)) group.lvs at offence.1
offence_breaks group Stripes at other offence =
    segment_fails (λ lv segment. IsWholeStriped group.extent_size segment.count segment.kind) group at other offence
offence_breaks group Mirrors at other offence = segment_fails (λ lv segment. IsWholeMirror segment.kind) group at other offence
offence_breaks group Within at other offence =
    λ within. offence.4 (All-contains (λ (run : LegRun). LiesWithin group run.on (run.first + run.count)) (runs_of group) offence.0 within
    offence.1)
offence_breaks group Apart at other offence = offence.2
offence_breaks group Depth at other offence = offence.2
offence_breaks group Moved at other offence =
    segment_fails (λ lv segment. MovedIsAllowed lv.status.pvmove segment.count segment.kind) group at other offence
offence_breaks group Pvmove at other offence = offence.2
offence_breaks group Locked at other offence = offence.2
