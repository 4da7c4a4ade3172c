use Rattle.std.proofs.Common.{◌≡◌, drop}
use Rattle.std.specs.List.{flat_map, list_any}
use Rattle.extent_map.specs.Covered.{is_in, leg_on}
use Rattle.extent_map.proofs.used_extents.legs_have.Given as goal

abbrev pub invariant-loop-leg : goal.invariant-loop-leg
invariant-loop-leg l =
    list_any (is_in l.extent) (flat_map (leg_on l.pv l.share) l.legs)
    ≡ list_any (is_in l.extent) (flat_map (leg_on l.pv l.share) (drop l.leg-index l.legs))
