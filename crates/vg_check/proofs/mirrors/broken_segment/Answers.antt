use Rattle.std.proofs.Common.{refl, arith}
use Rattle.meta_model.specs.declared.segment.Segment.{Segment}
use Rattle.volume_rules.specs.Rules.{IsWholeMirror}
use Rattle.list_laws.proofs.ItemWalks.{all_more_read, all_seen}
use Rattle.vg_check.proofs.mirrors.broken_segment.Goals as goal

pub loop-number-preserved : goal.loop-number-preserved
loop-number-preserved c =
    all_more_read (λ (segment : Segment). IsWholeMirror segment.kind) c.args.segments.now c.loop-number.number _ c.loop-number.invariant
    (omega arith) c.get.ensures (c.if-not-is_whole_mirror.ensures.0 refl)

pub returns : goal.returns
returns c =
    all_seen (λ (segment : Segment). IsWholeMirror segment.kind) c.args.segments.now c.loop-number.number c.loop-number.invariant
    (omega arith)
