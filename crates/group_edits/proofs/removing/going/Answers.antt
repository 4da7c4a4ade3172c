use Rattle.std.proofs.Common.{◌∙◌, refl}
use Rattle.volume_rules.specs.declared.rule.Rule.TheVariants.{Volumes}
use Rattle.group_edits.proofs.Marking.{first_round, next_round}
use Rattle.group_edits.proofs.removing.going.Goals as goal

pub below-named-requires : goal.below-named-requires
below-named-requires c = (c.requires Volumes).lvs

pub loop-round-init : goal.loop-round-init
loop-round-init c = (λ lv below. c.next-goes.ensures.told lv below ∙ first_round _ refl c.args.removed lv, c.next-goes.ensures.past)

pub below-held-requires : goal.below-held-requires
below-held-requires c = (c.requires Volumes).lvs

pub loop-round-preserved : goal.loop-round-preserved
loop-round-preserved c = (
  λ lv below. c.next-goes-in-loop-round.ensures.told lv below
      ∙ next_round c.args.group.now c.args.removed c.loop-round._round _ c.loop-round.goes c.below-named.result c.below-held.result refl
      (c.requires Volumes).lvs c.loop-round.invariant.0 lv (c.below-named.ensures lv below) (c.below-held.ensures lv below),
  c.next-goes-in-loop-round.ensures.past,
)
