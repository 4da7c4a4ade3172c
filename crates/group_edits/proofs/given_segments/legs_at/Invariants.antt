-- The legs so far.
use Rattle.std.proofs.Common.{◌≡◌, map, take}
use Rattle.group_edits.specs.GivenSegments.{leg_at}
use Rattle.group_edits.proofs.given_segments.legs_at.Given as goal

abbrev pub invariant-loop-run : goal.invariant-loop-run
invariant-loop-run l = l.legs.items ≡ map leg_at (take l.run-index l.runs)
