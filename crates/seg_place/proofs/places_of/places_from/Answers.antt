use Rattle.std.proofs.Common.{◌≡◌, ◌<◌, List, Option, Some, None, ap, subst, sym, ◌∙◌}
use Rattle.sector_base.specs.declared.places.At.{At}
use Rattle.meta_model.specs.declared.group.Group.{Group}
use Rattle.volume_view.specs.InSegments.{Met}
use Rattle.volume_view.specs.Places.{Places, places, primary}
use Rattle.seg_place.specs.CodeValues.{seen}
use Rattle.seg_place.specs.CodePlaces.{as_places}
use Rattle.seg_place.specs.Sectors.{sectors_of}
use Rattle.seg_place.proofs.DecidingSegments.{deciding_is_met, places_by}
use Rattle.seg_place.proofs.Descending.{leads_down}
use Rattle.seg_place.proofs.places_of.places_from.Goals as goal

pub deciding-requires-clause-leads : goal.deciding-requires-clause-leads
deciding-requires-clause-leads g c =
    leads_down c.group-group.result.now c.args.lv c.args.sector c.group-group.ensures.accepted
    (subst (λ (group : Group). c.args.sector < sectors_of group c.args.lv) (sym c.group-group.ensures.group) c.requires.within)

pub returns-in-None : goal.returns-in-None
returns-in-None g c =
    let group = c.group-group.result.now in
    let at = c.primary_in-primary.result in
    let here =
    subst (λ (group : Group). primary group c.args.lv c.args.sector ≡ Some at) (sym c.group-group.ensures.group)
    c.primary_in-primary.ensures.at in
    let none : Option Met = None in
    let make : List At → Places = λ others. record { primary = at; others = others; mirror = None } in
    subst (λ (group : Group). places group c.args.lv c.args.sector ≡ Some (make c.new.result)) c.group-group.ensures.group
    (places_by group c.args.lv c.args.sector at none here (sym c.in-None.ensures)
    ∙ ap (λ (others : List At). Some (make others)) (sym c.new.ensures))

pub with_others-requires-clause-met : goal.with_others-requires-clause-met
with_others-requires-clause-met g c =
    let leads =
    leads_down c.group-group.result.now c.args.lv c.args.sector c.group-group.ensures.accepted
    (subst (λ (group : Group). c.args.sector < sectors_of group c.args.lv) (sym c.group-group.ensures.group) c.requires.within) in
    deciding_is_met c.group-group.result.now c.args.lv c.args.sector (seen c.in-Some.met) leads (sym c.in-Some.ensures)

pub returns : goal.returns
returns g c =
    let group = c.group-group.result.now in
    let at = c.primary_in-primary.result in
    let here =
    subst (λ (group : Group). primary group c.args.lv c.args.sector ≡ Some at) (sym c.group-group.ensures.group)
    c.primary_in-primary.ensures.at in
    subst (λ (group : Group). places group c.args.lv c.args.sector ≡ Some (as_places c.with_others.result)) c.group-group.ensures.group
    (places_by group c.args.lv c.args.sector at (Some (seen c.in-Some.met)) here (sym c.in-Some.ensures)
    ∙ ap (λ (p : Places). Some p) (sym c.with_others.ensures))
