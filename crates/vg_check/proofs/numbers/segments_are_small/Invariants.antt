-- The segments so far have small numbers.
use Rattle.std.proofs.Common.{All, take}
use Rattle.volume_rules.specs.Rules.{SegmentIsSmall}
use Rattle.vg_check.proofs.numbers.segments_are_small.Given as goal

abbrev pub invariant-loop-number : goal.invariant-loop-number
invariant-loop-number l = All SegmentIsSmall (take l.number l.segments)
