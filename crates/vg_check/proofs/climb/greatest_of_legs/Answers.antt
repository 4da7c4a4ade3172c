use Rattle.meta_model.specs.declared.segment.Leg.{Leg}
use Rattle.meta_model.specs.declared.segment.On.TheVariants as on
use Rattle.vg_check.proofs.Climbs.{leg_more}
use Rattle.vg_check.proofs.climb.greatest_of_legs.Goals as goal

pub loop-leg-preserved : goal.loop-leg-preserved
loop-leg-preserved c =
    let none : Leg = record { on = on.Pv 0; first = 0 } in
    leg_more c.args.numbers.now c.args.legs.now c.loop-leg.leg-index none c.loop-leg.best c.number_on.result c.max-best.result
    c.loop-leg-test.true c.loop-leg.invariant c.number_on.ensures c.max-best.ensures
