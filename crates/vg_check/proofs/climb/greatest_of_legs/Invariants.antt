use Rattle.std.proofs.Common.{◌≡◌, take}
use Rattle.vg_check.specs.Climbing.{greatest_leg}
use Rattle.vg_check.proofs.climb.greatest_of_legs.Given as goal

abbrev pub invariant-loop-leg : goal.invariant-loop-leg
invariant-loop-leg l = l.best ≡ greatest_leg l.numbers (take l.leg-index l.legs)
