use Rattle.std.proofs.Common.{◌≡◌, ◌<◌, Some, sym, subst}
use Rattle.meta_model.specs.declared.group.Group.{Group}
use Rattle.meta_model.specs.declared.segment.On.TheVariants as on
use Rattle.volume_view.specs.Places.{primary}
use Rattle.seg_place.specs.Sectors.{sectors_of}
use Rattle.seg_place.proofs.Descending.{is_primary, leads_down, sector_is_small, way_is_short}
use Rattle.seg_place.proofs.primary_place.primary_in.Goals as goal

pub follow-requires-clause-leads : goal.follow-requires-clause-leads
follow-requires-clause-leads g c =
    leads_down c.group.result.now c.args.lv c.args.sector c.group.ensures.accepted
    (subst (λ (group : Group). c.args.sector < sectors_of group c.args.lv) (sym c.group.ensures.group) c.requires)

pub follow-requires-clause-small : goal.follow-requires-clause-small
follow-requires-clause-small g c =
    sector_is_small c.group.result.now c.args.lv c.args.sector c.group.ensures.accepted
    (subst (λ (group : Group). c.args.sector < sectors_of group c.args.lv) (sym c.group.ensures.group) c.requires)

pub returns-clause-at : goal.returns-clause-at
returns-clause-at g c =
    subst (λ (group : Group). primary group c.args.lv c.args.sector ≡ Some c.follow.result) c.group.ensures.group
    (is_primary c.group.result.now c.args.lv c.args.sector c.follow.result c.follow.ensures.at)

pub returns-clause-volumes : goal.returns-clause-volumes
returns-clause-volumes g c = way_is_short c.args.group.now 5 (on.Lv c.args.lv) c.args.sector
