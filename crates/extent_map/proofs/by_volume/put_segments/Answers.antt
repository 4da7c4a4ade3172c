use Rattle.std.proofs.Common.{ℕ, List, ap, ap₂, ◌∙◌}
use Rattle.std.specs.List.{flat_map}
use Rattle.meta_model.specs.declared.segment.Leg.{Leg}
use Rattle.meta_model.specs.declared.segment.Segment.{Segment}
use Rattle.extent_map.specs.ByVolume.{each_with, lists_of}
use Rattle.extent_map.specs.Covered.{leg_on, segment_on}
use Rattle.extent_map.proofs.Buckets.{each_nothing, each_walked}
use Rattle.extent_map.proofs.by_volume.put_segments.Goals as goal

pub loop-segment-preserved : goal.loop-segment-preserved
loop-segment-preserved c =
    each_walked (λ pv. segment_on pv) c.args.segments.now c.loop-segment.segment-index c.segment-item.result
    (lists_of c.loop-segment.buckets.items) _ c.loop-segment-test.true
    (c.in_ok-put_legs.ensures
    ∙ ap₂ (λ (legs : List Leg) (n : ℕ). each_with (λ pv. flat_map (leg_on pv n) legs) 0 (lists_of c.loop-segment.buckets.items))
    (c.as_slice.ensures ∙ c.legs.ensures) c.share-share.ensures
    ∙ ap (λ (segment : Segment). each_with (λ pv. segment_on pv segment) 0 (lists_of c.loop-segment.buckets.items)) c.segment-item.is)
    ∙ c.loop-segment.invariant

pub returns : goal.returns
returns c =
    each_nothing (λ pv. segment_on pv) c.args.segments.now c.loop-segment.segment-index (lists_of c.loop-segment.buckets.items)
    c.loop-segment-test.false ∙ c.loop-segment.invariant
