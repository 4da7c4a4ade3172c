use Rattle.std.proofs.Common.{◌≡◌, take}
use Rattle.vg_check.specs.Climbing.{greatest_segment}
use Rattle.vg_check.proofs.climb.greatest_below.Given as goal

abbrev pub invariant-loop-segment : goal.invariant-loop-segment
invariant-loop-segment l = l.best ≡ greatest_segment l.numbers (take l.segment-index l.segments)
