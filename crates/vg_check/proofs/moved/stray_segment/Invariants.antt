-- What the segments so far say was moved is allowed.
use Rattle.std.proofs.Common.{All, take}
use Rattle.meta_model.specs.declared.segment.Segment.{Segment}
use Rattle.volume_rules.specs.Rules.{MovedIsAllowed}
use Rattle.vg_check.proofs.moved.stray_segment.Given as goal

abbrev pub invariant-loop-number : goal.invariant-loop-number
invariant-loop-number l = All (λ (segment : Segment). MovedIsAllowed l.pvmove segment.count segment.kind) (take l.number l.segments)
