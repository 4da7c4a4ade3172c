use Rattle.std.proofs.Common.{sym, subst, arith}
use Rattle.std.specs.Prelude.{All}
use Rattle.vg_check.specs.Whole.{SegmentIsWhole}
use Rattle.vg_check.proofs.Ends.{lvs_whole, fewer}
use Rattle.vg_check.proofs.Putting.{row_more, row_room}
use Rattle.vg_check.proofs.apart.put_group.Goals as goal

pub put_volume-count-requires-clause-whole : goal.put_volume-count-requires-clause-whole
put_volume-count-requires-clause-whole c =
    subst (All SegmentIsWhole) (sym c.as_slice-segments.ensures)
    (lvs_whole c.args.group.now c.loop-number.number _ (fewer c.args.group.now 9 10 (omega arith) c.requires.below) c.lv.ensures.1)

pub put_volume-count-requires-clause-room : goal.put_volume-count-requires-clause-room
put_volume-count-requires-clause-room c =
    row_room c.args.group.now c.loop-number.number c.lv.result.now c.as_slice-segments.result.now c.args.runs.now c.loop-number.runs
    c.loop-number.count c.lv.ensures c.as_slice-segments.ensures c.requires.room c.loop-number.invariant

pub loop-number-preserved : goal.loop-number-preserved
loop-number-preserved c =
    row_more c.args.group.now c.loop-number.number c.lv.result.now c.as_slice-segments.result.now c.args.runs.now c.loop-number.runs
    c.put_volume-count.new.runs c.loop-number.count c.put_volume-count.result c.lv.ensures c.as_slice-segments.ensures
    c.loop-number.invariant c.put_volume-count.ensures
