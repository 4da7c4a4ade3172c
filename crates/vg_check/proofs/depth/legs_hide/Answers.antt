use Rattle.std.proofs.Common.{rules}
use Rattle.std.proofs.lemmas.List.Elements.{All-more}
use Rattle.meta_model.specs.declared.segment.Leg.{Leg}
use Rattle.meta_model.specs.declared.segment.On.TheVariants as on
use Rattle.vg_check.specs.Hidden.{OnIsHidden}
use Rattle.list_laws.proofs.Fronts.{all_done}
use Rattle.vg_check.proofs.depth.legs_hide.Goals as goal

pub loop-leg-preserved : goal.loop-leg-preserved
loop-leg-preserved c =
    let none : Leg = record { on = on.Pv 0; first = 0 } in
    All-more (λ (leg : Leg). OnIsHidden c.args.group.now leg.on) c.args.legs.now c.loop-leg.leg-index none c.loop-leg-test.true
    c.loop-leg.invariant (c.if-not-is_hidden.ensures.0 (search rules))

pub returns : goal.returns
returns c = (
  λ is. all_done (λ (leg : Leg). OnIsHidden c.args.group.now leg.on) c.args.legs.now c.loop-leg.leg-index c.loop-leg-test.false
      c.loop-leg.invariant,
  λ all. search rules,
)
