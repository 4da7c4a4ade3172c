use Rattle.std.proofs.Common.{◌≡◌, ◌++◌, take}
use Rattle.std.specs.List.{flat_map}
use Rattle.extent_map.specs.Covered.{segment_on}
use Rattle.extent_map.proofs.leg_runs.add_segments.Given as goal

abbrev pub invariant-loop-segment : goal.invariant-loop-segment
invariant-loop-segment l = l.runs.items ≡ l.fn.runs.items ++ flat_map (segment_on l.pv) (take l.segment-index l.segments)
