use Rattle.std.proofs.Common.{rules, subst, ◌∙◌}
use Rattle.std.specs.Prelude.{All}
use Rattle.meta_model.specs.declared.segment.Leg.{Leg}
use Rattle.vg_check.specs.Hidden.{LegsAreHidden, OnIsHidden}
use Rattle.list_laws.proofs.Fronts.{all_more, all_done}
use Rattle.vg_check.proofs.depth.segments_hide.Goals as goal

pub loop-segment-preserved : goal.loop-segment-preserved
loop-segment-preserved c =
    all_more (LegsAreHidden c.args.group.now) c.args.segments.now c.loop-segment.segment-index c.segment-item.result
    c.loop-segment-test.true c.segment-item.is c.loop-segment.invariant
    (subst (All (λ (leg : Leg). OnIsHidden c.args.group.now leg.on)) (c.as_slice-legs.ensures ∙ c.legs.ensures)
    (c.if-not-legs_hide.ensures.0 (search rules)))

pub returns : goal.returns
returns c = (
  λ is. all_done (LegsAreHidden c.args.group.now) c.args.segments.now c.loop-segment.segment-index c.loop-segment-test.false
      c.loop-segment.invariant,
  λ all. search rules,
)
