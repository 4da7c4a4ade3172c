-- The segments so far are whole.
use Rattle.std.proofs.Common.{All, take}
use Rattle.meta_model.specs.declared.segment.Segment.{Segment}
use Rattle.volume_rules.specs.Rules.{IsWholeMirror}
use Rattle.vg_check.proofs.mirrors.broken_segment.Given as goal

abbrev pub invariant-loop-number : goal.invariant-loop-number
invariant-loop-number l = All (λ (segment : Segment). IsWholeMirror segment.kind) (take l.number l.segments)
