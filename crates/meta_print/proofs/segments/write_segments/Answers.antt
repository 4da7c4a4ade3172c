use Rattle.conf_text.proofs.Adding.{prints_both}
use Rattle.meta_print.proofs.Chains.{prints_as}
use Rattle.meta_print.proofs.SegmentLists.{segments_more}
use Rattle.meta_print.proofs.segments.write_segments.Goals as goal

pub loop-at-preserved : goal.loop-at-preserved
loop-at-preserved g c =
    prints_as (prints_both g.S.TextSink.laws c.loop-at.invariant c.in_ok-write_segment.ensures.added)
    (segments_more c.args.group.now c.args.segments.now c.loop-at.at c.index-segments-at.result c.loop-at-test.true c.index-segments-at.is)
