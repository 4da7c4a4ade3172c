use Rattle.std.proofs.Common.{refl, arith}
use Rattle.meta_model.specs.declared.segment.Segment.{Segment}
use Rattle.volume_rules.specs.Rules.{MovedIsAllowed}
use Rattle.list_laws.proofs.ItemWalks.{all_more_read, all_seen}
use Rattle.vg_check.proofs.moved.stray_segment.Goals as goal

pub loop-number-preserved : goal.loop-number-preserved
loop-number-preserved c =
    all_more_read (λ (segment : Segment). MovedIsAllowed c.args.pvmove segment.count segment.kind) c.args.segments.now c.loop-number.number
    _ c.loop-number.invariant (omega arith) c.get.ensures (c.if-not-moved_is_allowed.ensures.0 refl)

pub returns : goal.returns
returns c =
    all_seen (λ (segment : Segment). MovedIsAllowed c.args.pvmove segment.count segment.kind) c.args.segments.now c.loop-number.number
    c.loop-number.invariant (omega arith)
