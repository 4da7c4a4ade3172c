use Rattle.std.proofs.Common.{◌≡◌, [], replicate}
use Rattle.extent_map.specs.ByVolume.{lists_of}
use Rattle.extent_map.proofs.by_volume.empty.Given as goal

abbrev pub invariant-loop : goal.invariant-loop
invariant-loop l = lists_of l.buckets.items ≡ replicate l.counter []
