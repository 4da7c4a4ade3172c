use Rattle.std.proofs.Common.{◌≡◌, ◌+◌, drop}
use Rattle.std.specs.List.{flat_map}
use Rattle.extent_map.specs.Covered.{extents_in, leg_on}
use Rattle.extent_map.proofs.leg_runs.covered_by_legs.Given as goal

abbrev pub invariant-loop-leg : goal.invariant-loop-leg
invariant-loop-leg l =
    l.total + extents_in (flat_map (leg_on l.pv l.share) (drop l.leg-index l.legs)) ≡ extents_in (flat_map (leg_on l.pv l.share) l.legs)
