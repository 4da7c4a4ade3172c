use Rattle.std.proofs.Common.{rules, subst, ◌+◌, ◌∙◌, get_or}
use Rattle.std.specs.Prelude.{All}
use Rattle.std.proofs.lemmas.List.Elements.{All-more}
use Rattle.meta_model.specs.declared.segment.Leg.{Leg}
use Rattle.meta_model.specs.declared.segment.On.TheVariants as on
use Rattle.volume_rules.specs.Rules.{LiesWithin}
use Rattle.vg_check.specs.Outside.{LegLiesInside}
use Rattle.list_laws.proofs.Fronts.{all_done}
use Rattle.vg_check.proofs.legs.legs_lie_inside.Goals as goal

pub loop-leg-preserved : goal.loop-leg-preserved
loop-leg-preserved c =
    let none : Leg = record { on = on.Pv 0; first = 0 } in
    let leg : Leg = get_or c.as_slice-leg-items.result.now c.loop-leg.leg-index none in
    All-more (LegLiesInside c.args.group.now c.args.segment.now) c.as_slice-leg-items.result.now c.loop-leg.leg-index none
    c.loop-leg-test.true c.loop-leg.invariant
    (subst (λ count. LiesWithin c.args.group.now leg.on (leg.first + count)) c.share-count.ensures
    (c.if-not-lies_within.ensures.0 (search rules)))

pub returns : goal.returns
returns c =
    subst (All (LegLiesInside c.args.group.now c.args.segment.now)) (c.as_slice-leg-items.ensures ∙ c.legs.ensures)
    (all_done (LegLiesInside c.args.group.now c.args.segment.now) c.as_slice-leg-items.result.now c.loop-leg.leg-index c.loop-leg-test.false
    c.loop-leg.invariant)
