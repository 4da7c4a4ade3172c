use Rattle.std.proofs.Common.{◌∙◌}
use Rattle.vg_check.proofs.Climbs.{segment_more}
use Rattle.vg_check.proofs.climb.greatest_below.Goals as goal

pub loop-segment-preserved : goal.loop-segment-preserved
loop-segment-preserved c =
    segment_more c.args.numbers.now c.args.segments.now c.loop-segment.segment-index c.segment-item.result c.as_slice-legs.result.now
    c.loop-segment.best c.greatest_of_legs.result c.max-best.result c.loop-segment-test.true c.segment-item.is
    (c.as_slice-legs.ensures ∙ c.legs.ensures) c.loop-segment.invariant c.greatest_of_legs.ensures c.max-best.ensures
