use Rattle.std.proofs.Common.{◌≡◌, drop}
use Rattle.std.specs.List.{flat_map}
use Rattle.extent_map.specs.ByVolume.{each_with, lists_of}
use Rattle.extent_map.specs.Covered.{segment_on}
use Rattle.extent_map.proofs.by_volume.put_segments.Given as goal

abbrev pub invariant-loop-segment : goal.invariant-loop-segment
invariant-loop-segment l =
    each_with (λ pv. flat_map (segment_on pv) (drop l.segment-index l.segments)) 0 (lists_of l.buckets.items)
    ≡ each_with (λ pv. flat_map (segment_on pv) l.segments) 0 (lists_of l.fn.buckets.items)
