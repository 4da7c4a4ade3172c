use Rattle.std.proofs.Common.{◌≡◌, drop}
use Rattle.std.specs.List.{flat_map, list_any}
use Rattle.extent_map.specs.Covered.{is_in, segment_on}
use Rattle.extent_map.proofs.used_extents.segments_have.Given as goal

abbrev pub invariant-loop-segment : goal.invariant-loop-segment
invariant-loop-segment l =
    list_any (is_in l.extent) (flat_map (segment_on l.pv) l.segments)
    ≡ list_any (is_in l.extent) (flat_map (segment_on l.pv) (drop l.segment-index l.segments))
