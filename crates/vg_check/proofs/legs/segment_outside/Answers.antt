use Rattle.vg_check.specs.Outside.{LegsLieInside}
use Rattle.list_laws.proofs.Fronts.{all_more, all_done}
use Rattle.vg_check.proofs.legs.segment_outside.Goals as goal

pub loop-number-preserved : goal.loop-number-preserved
loop-number-preserved c =
    all_more (LegsLieInside c.args.group.now) c.args.segments.now c.loop-number.number c.index-segments-number.result
    c.loop-number-test.true c.index-segments-number.is c.loop-number.invariant c.if-not-legs_lie_inside.ensures

pub returns : goal.returns
returns c =
    all_done (LegsLieInside c.args.group.now) c.args.segments.now c.loop-number.number c.loop-number-test.false c.loop-number.invariant
