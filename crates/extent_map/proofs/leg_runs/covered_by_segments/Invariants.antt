use Rattle.std.proofs.Common.{◌≡◌, ◌+◌, drop}
use Rattle.std.specs.List.{flat_map}
use Rattle.extent_map.specs.Covered.{extents_in, segment_on}
use Rattle.extent_map.proofs.leg_runs.covered_by_segments.Given as goal

abbrev pub invariant-loop-segment : goal.invariant-loop-segment
invariant-loop-segment l =
    l.total + extents_in (flat_map (segment_on l.pv) (drop l.segment-index l.segments)) ≡ extents_in (flat_map (segment_on l.pv) l.segments)
