use Rattle.std.proofs.Common.{refl, arith}
use Rattle.seg_place.proofs.MarkedVolumes.{all_has_marked, has_marked_more, none_has_marked}
use Rattle.seg_place.proofs.moving.marks_above.Goals as goal

pub loop-number-init : goal.loop-number-init
loop-number-init c = none_has_marked c.args.group.now c.args.marks.now 1024 refl

pub loop-number-preserved : goal.loop-number-preserved
loop-number-preserved c =
    has_marked_more c.args.group.now c.args.marks.now c.loop-number.above c.loop-number.number (c.get.result.0.now, c.get.result.1.now)
    c.is_above.result c.loop-number.invariant (omega arith) c.get.ensures c.is_above.ensures

pub returns : goal.returns
returns c = all_has_marked c.args.group.now c.args.marks.now c.loop-number.above c.loop-number.number c.loop-number.invariant (omega arith)
