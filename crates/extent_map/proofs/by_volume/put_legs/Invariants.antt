use Rattle.std.proofs.Common.{◌≡◌, drop}
use Rattle.std.specs.List.{flat_map}
use Rattle.extent_map.specs.ByVolume.{each_with, lists_of}
use Rattle.extent_map.specs.Covered.{leg_on}
use Rattle.extent_map.proofs.by_volume.put_legs.Given as goal

abbrev pub invariant-loop-leg : goal.invariant-loop-leg
invariant-loop-leg l =
    each_with (λ pv. flat_map (leg_on pv l.share) (drop l.leg-index l.legs)) 0 (lists_of l.buckets.items)
    ≡ each_with (λ pv. flat_map (leg_on pv l.share) l.legs) 0 (lists_of l.fn.buckets.items)
