use Rattle.std.proofs.Common.{refl, arith}
use Rattle.volume_rules.specs.Rules.{SegmentIsSmall}
use Rattle.list_laws.proofs.ItemWalks.{all_more_read, all_seen}
use Rattle.vg_check.proofs.numbers.segments_are_small.Goals as goal

pub loop-number-preserved : goal.loop-number-preserved
loop-number-preserved c =
    all_more_read SegmentIsSmall c.args.segments.now c.loop-number.number _ c.loop-number.invariant (omega arith) c.get.ensures
    (c.if-not-segment_is_small.ensures.0 refl)

pub returns : goal.returns
returns c = (λ _. all_seen SegmentIsSmall c.args.segments.now c.loop-number.number c.loop-number.invariant (omega arith), λ _. refl)
