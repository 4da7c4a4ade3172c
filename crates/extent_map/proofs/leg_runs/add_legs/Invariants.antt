use Rattle.std.proofs.Common.{◌≡◌, ◌++◌, take}
use Rattle.std.specs.List.{flat_map}
use Rattle.extent_map.specs.Covered.{leg_on}
use Rattle.extent_map.proofs.leg_runs.add_legs.Given as goal

abbrev pub invariant-loop-leg : goal.invariant-loop-leg
invariant-loop-leg l = l.runs.items ≡ l.fn.runs.items ++ flat_map (leg_on l.pv l.share) (take l.leg-index l.legs)
