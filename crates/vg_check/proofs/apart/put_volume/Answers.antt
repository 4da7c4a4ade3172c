use Rattle.vg_check.specs.SortedRuns.{segment_runs}
use Rattle.vg_check.proofs.Putting.{room_more}
use Rattle.vg_check.proofs.apart.put_volume.Goals as goal

pub put_segment-count-requires-clause-room : goal.put_segment-count-requires-clause-room
put_segment-count-requires-clause-room c =
    room_more segment_runs c.args.segments.now c.loop-segment.segment-index c.segment-item.result c.args.runs.now c.loop-segment.runs
    c.args.count c.loop-segment.count c.loop-segment-test.true c.segment-item.is c.requires.room c.loop-segment.invariant
