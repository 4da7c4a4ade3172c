use Rattle.std.specs.Prelude.{All}
use Rattle.std.proofs.Common.{sym, subst, arith}
use Rattle.std.proofs.lemmas.Option.{slice_get_within}
use Rattle.vg_check.proofs.Ends.{lvs_whole}
use Rattle.vg_check.proofs.Within.{all_within, fails_there}
use Rattle.vg_check.specs.Whole.{SegmentIsWhole}
use Rattle.vg_check.specs.Outside.{SegmentFails}
use Rattle.vg_check.proofs.legs.leg_outside.Goals as goal

pub segment_outside-requires-clause-whole : goal.segment_outside-requires-clause-whole
segment_outside-requires-clause-whole c =
    subst (All SegmentIsWhole) (sym c.as_slice-segments.ensures)
    (lvs_whole c.args.group.now c.loop-number.number _ c.requires c.lv.ensures.1)

pub returns-in-Some : goal.returns-in-Some
returns-in-Some c =
    fails_there c.args.group.now c.loop-number.number _ c.in-Some.other c.lv.ensures.1
    (subst (λ s. SegmentFails c.args.group.now s c.in-Some.other) c.as_slice-segments.ensures c.in-Some.ensures)

pub returns : goal.returns
returns c =
    all_within c.args.group.now (λ n row is. c.loop-number.invariant n row (omega (arith, slice_get_within c.args.group.now.lvs n row is))
    is)
