use Rattle.std.proofs.Common.{◌∙◌}
use Rattle.extent_map.specs.ByVolume.{lists_of}
use Rattle.extent_map.specs.Covered.{leg_on}
use Rattle.extent_map.proofs.Buckets.{each_nothing, each_walked}
use Rattle.extent_map.proofs.by_volume.put_legs.Goals as goal

pub loop-leg-preserved : goal.loop-leg-preserved
loop-leg-preserved c =
    each_walked (λ pv. leg_on pv c.args.share) c.args.legs.now c.loop-leg.leg-index _ (lists_of c.loop-leg.buckets.items) _
    c.loop-leg-test.true c.in_ok-put_leg.ensures
    ∙ c.loop-leg.invariant

pub returns : goal.returns
returns c =
    each_nothing (λ pv. leg_on pv c.args.share) c.args.legs.now c.loop-leg.leg-index (lists_of c.loop-leg.buckets.items)
    c.loop-leg-test.false ∙ c.loop-leg.invariant
