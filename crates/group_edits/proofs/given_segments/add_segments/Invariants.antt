-- The segments so far, and those that are still to come.
use Rattle.std.proofs.Common.{◌≡◌, ◌<◌, ◌+◌, ◌^◌, ◌++◌, drop}
use Rattle.group_edits.specs.GivenSegments.{extents_in, segments_of}
use Rattle.group_edits.proofs.given_segments.add_segments.Given as goal

abbrev pub invariant-loop-part : goal.invariant-loop-part
invariant-loop-part l =
    (l.segments.items ++ segments_of l.kind l.at (drop l.part-index l.given) ≡ l.fn.segments.items ++ segments_of l.kind l.start l.given)
    × (l.at + extents_in (segments_of l.kind l.at (drop l.part-index l.given)) < 2 ^ 64)
