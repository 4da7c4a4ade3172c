use Rattle.std.proofs.Common.{◌≡◌, ◌-◌, ◌∷◌, List, ap, sym, subst, ◌∙◌}
use Rattle.std.specs.Prelude.{IsSome}
use Rattle.meta_model.specs.declared.segment.On.{On}
use Rattle.meta_model.specs.declared.segment.On.TheVariants as on
use Rattle.volume_view.specs.InSegments.{Met}
use Rattle.volume_view.specs.Places.{down, way}
use Rattle.seg_place.specs.Cost.{TakesSteps}
use Rattle.seg_place.specs.CodeValues.{as_spot, seen}
use Rattle.seg_place.proofs.Descending.{is_met, takes_first, way_by}
use Rattle.seg_place.proofs.descent.+follow.Goals as goal

pub primary_spot-requires-clause-met : goal.primary_spot-requires-clause-met
primary_spot-requires-clause-met g t c =
    is_met c.args.group.now c.in-Lv.lv c.args.spot.sector (seen c.segment_at-met.result) c.segment_at-met.ensures.met

pub returns-in-Lv-clause-steps : goal.returns-in-Lv-clause-steps
returns-in-Lv-clause-steps g t c =
    let group = c.args.group.now in
    let met = seen c.segment_at-met.result in
    let spot = as_spot c.primary_spot.result in
    let leads : IsSome (down group (on.Lv c.in-Lv.lv) c.args.most c.args.spot.sector) =
    subst (λ (o : On). IsSome (down group o c.args.most c.args.spot.sector)) c.in-Lv.is c.requires.leads in
    let same : way group c.args.spot.on c.args.most c.args.spot.sector ≡ met ∷ way group spot.on (c.args.most - 1) spot.sector =
    ap (λ (o : On). way group o c.args.most c.args.spot.sector) c.in-Lv.is
    ∙ way_by group c.in-Lv.lv c.args.spot.sector c.args.most met spot leads c.segment_at-met.ensures.met c.primary_spot.ensures.spot in
    subst (λ (w : List Met). TakesSteps group w c.args.steps.now c.follow.new.steps) (sym same)
    (takes_first group c.in-Lv.lv c.args.spot.sector met (way group spot.on (c.args.most - 1) spot.sector) c.args.steps.now
    c.segment_at-met.new.steps c.follow.new.steps c.segment_at-met.ensures.met c.segment_at-met.ensures.steps c.follow.ensures.steps)
