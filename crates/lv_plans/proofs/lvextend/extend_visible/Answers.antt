use Rattle.std.proofs.Common.{None, ◌≡◌, sym, subst, arith}
use Rattle.std.proofs.lemmas.Result.{err_from_is_err_and}
use Rattle.meta_model.specs.Standing.{HasTree}
use Rattle.meta_model.specs.declared.group.Group.{Group}
use Rattle.volume_rules.specs.Rules.{IsAccepted}
use Rattle.volume_rules.specs.declared.rule.Rule.TheVariants.{Numbers}
use Rattle.extent_alloc.specs.Giving.{IsRequest}
use Rattle.group_plan.proofs.PlacedGroup.{few_listed, lie_on_disks}
use Rattle.group_plan.specs.Judging.{first_refusal}
use Rattle.lv_plans.proofs.Extending.{grows_if, has_last_legs, has_segment, is_request, more_is, planned_volume, refused_growth}
use Rattle.lv_plans.proofs.Extending.{refused_space}
use Rattle.lv_plans.proofs.PassedRows.{growth_passes}
use Rattle.lv_plans.proofs.GivenParts.{few_parts}
use Rattle.lv_plans.proofs.Reducing.{has_few_extents, has_few_legs}
use Rattle.lv_plans.specs.Lvextend.{growth_rows}
use Rattle.lv_plans.proofs.lvextend.extend_visible.Goals as goal

pub judge_growth-requires-clause-few : goal.judge_growth-requires-clause-few
judge_growth-requires-clause-few c =
    few_listed c.args.state.now c.requires.state c.args.group.now c.requires.found
    (subst IsAccepted c.group-found.ensures.group c.group-found.ensures.accepted)

pub judge_growth-requires-clause-size : goal.judge_growth-requires-clause-size
judge_growth-requires-clause-size c = let least = (c.group-found.ensures.accepted Numbers).extent_size.0 in omega (arith, least)

pub judge_growth-requires-clause-volume : goal.judge_growth-requires-clause-volume
judge_growth-requires-clause-volume c =
    has_few_extents c.args.group.now (subst IsAccepted c.group-found.ensures.group c.group-found.ensures.accepted) c.args.name.now
    c.args.number c.args.lv.now c.requires.volume

pub judge_growth-requires-clause-legs : goal.judge_growth-requires-clause-legs
judge_growth-requires-clause-legs c =
    has_few_legs c.args.group.now (subst IsAccepted c.group-found.ensures.group c.group-found.ensures.accepted) c.args.name.now
    c.args.number c.args.lv.now c.requires.volume

pub returns-in_err-judge_growth : goal.returns-in_err-judge_growth
returns-in_err-judge_growth c =
    let p = err_from_is_err_and c.from_residual.result c.from_residual.ensures.1 in
    rw (p.1, p.2)
    (refused_growth c.args.state.now c.args.name.now c.args.growth c.args.pvs.now c.args.now c.args.number c.args.lv.now
    c.group-found.result.now c.args.group.now c.group-found.ensures.group _ c.in_err-judge_growth.ensures)

pub pvs_named-on-requires-clause-few : goal.pvs_named-on-requires-clause-few
pvs_named-on-requires-clause-few c =
    few_listed c.args.state.now c.requires.state c.args.group.now c.requires.found
    (subst IsAccepted c.group-found.ensures.group c.group-found.ensures.accepted)

pub more_for-want-requires-clause-size : goal.more_for-want-requires-clause-size
more_for-want-requires-clause-size c = let least = (c.group-found.ensures.accepted Numbers).extent_size.0 in omega (arith, least)

pub more_for-want-requires-clause-volume : goal.more_for-want-requires-clause-volume
more_for-want-requires-clause-volume c =
    has_few_extents c.args.group.now (subst IsAccepted c.group-found.ensures.group c.group-found.ensures.accepted) c.args.name.now
    c.args.number c.args.lv.now c.requires.volume

pub more_for-want-requires-clause-some : goal.more_for-want-requires-clause-some
more_for-want-requires-clause-some c =
    has_segment c.args.group.now (subst IsAccepted c.group-found.ensures.group c.group-found.ensures.accepted) c.args.name.now c.args.number
    c.args.lv.now c.requires.volume

pub more_for-want-requires-clause-legs : goal.more_for-want-requires-clause-legs
more_for-want-requires-clause-legs c =
    has_last_legs c.args.group.now (subst IsAccepted c.group-found.ensures.group c.group-found.ensures.accepted) c.args.name.now
    c.args.number c.args.lv.now c.requires.volume

pub take_extents-requires : goal.take_extents-requires
take_extents-requires c =
    subst IsRequest (sym (more_is c.args.state.now c.group-found.result.now c.args.group.now c.args.growth c.args.pvs.now c.args.lv.now
    c.pvs_named-on.result c.more_for-want.result c.group-found.ensures.group c.pvs_named-on.ensures c.more_for-want.ensures))
    (is_request c.args.group.now (subst IsAccepted c.group-found.ensures.group c.group-found.ensures.accepted) c.args.name.now c.args.number
    c.args.lv.now c.requires.volume c.args.state.now c.args.growth c.args.pvs.now c.requires.growth
    (growth_passes c.args.state.now c.args.name.now c.args.growth c.args.pvs.now c.args.group.now c.args.number c.args.lv.now
    (subst (λ (g : Group). first_refusal (growth_rows c.args.state.now c.args.name.now c.args.growth c.args.pvs.now g
    (c.args.number, c.args.lv.now)) ≡ None) c.group-found.ensures.group c.in_ok-judge_growth.ensures)).longer)

pub returns-in_err-given : goal.returns-in_err-given
returns-in_err-given c =
    let p = err_from_is_err_and c.from_residual-in_err-given.result c.from_residual-in_err-given.ensures.1 in
    rw (p.1, p.2)
    (refused_space c.args.state.now c.args.name.now c.args.growth c.args.pvs.now c.args.now c.args.number c.args.lv.now
    c.group-found.result.now c.args.group.now c.group-found.ensures.group c.in_ok-judge_growth.ensures c.more_for-want.result
    (more_is c.args.state.now c.group-found.result.now c.args.group.now c.args.growth c.args.pvs.now c.args.lv.now c.pvs_named-on.result
    c.more_for-want.result c.group-found.ensures.group c.pvs_named-on.ensures c.more_for-want.ensures) _ c.in_err-given.ensures)

pub lengthen-requires-clause-grows : goal.lengthen-requires-clause-grows
lengthen-requires-clause-grows c =
    grows_if c.args.group.now (subst IsAccepted c.group-found.ensures.group c.group-found.ensures.accepted) c.args.name.now c.args.number
    c.args.lv.now c.requires.volume c.args.state.now c.requires.state c.requires.found
    (subst HasTree c.group-found.ensures.group c.group-found.ensures.stands) c.args.growth c.args.pvs.now c.more_for-want.result
    (more_is c.args.state.now c.group-found.result.now c.args.group.now c.args.growth c.args.pvs.now c.args.lv.now c.pvs_named-on.result
    c.more_for-want.result c.group-found.ensures.group c.pvs_named-on.ensures c.more_for-want.ensures) c.in_ok-given.given
    (growth_passes c.args.state.now c.args.name.now c.args.growth c.args.pvs.now c.args.group.now c.args.number c.args.lv.now
    (subst (λ (g : Group). first_refusal (growth_rows c.args.state.now c.args.name.now c.args.growth c.args.pvs.now g
    (c.args.number, c.args.lv.now)) ≡ None) c.group-found.ensures.group c.in_ok-judge_growth.ensures)).apart
    c.in_ok-given.ensures.0

pub lengthen-requires-clause-few : goal.lengthen-requires-clause-few
lengthen-requires-clause-few c =
    few_parts c.args.group.now c.more_for-want.result c.in_ok-given.given
    (subst IsAccepted c.group-found.ensures.group c.group-found.ensures.accepted)
    (lie_on_disks c.args.state.now c.requires.state c.args.group.now c.requires.found)
    (subst IsRequest (sym (more_is c.args.state.now c.group-found.result.now c.args.group.now c.args.growth c.args.pvs.now c.args.lv.now
    c.pvs_named-on.result c.more_for-want.result c.group-found.ensures.group c.pvs_named-on.ensures c.more_for-want.ensures))
    (is_request c.args.group.now (subst IsAccepted c.group-found.ensures.group c.group-found.ensures.accepted) c.args.name.now c.args.number
    c.args.lv.now c.requires.volume c.args.state.now c.args.growth c.args.pvs.now c.requires.growth
    (growth_passes c.args.state.now c.args.name.now c.args.growth c.args.pvs.now c.args.group.now c.args.number c.args.lv.now
    (subst (λ (g : Group). first_refusal (growth_rows c.args.state.now c.args.name.now c.args.growth c.args.pvs.now g
    (c.args.number, c.args.lv.now)) ≡ None) c.group-found.ensures.group c.in_ok-judge_growth.ensures)).longer))
    c.in_ok-given.ensures.0

pub lengthen-requires-clause-seqno : goal.lengthen-requires-clause-seqno
lengthen-requires-clause-seqno c =
    (growth_passes c.args.state.now c.args.name.now c.args.growth c.args.pvs.now c.args.group.now c.args.number c.args.lv.now
    (subst (λ (g : Group). first_refusal (growth_rows c.args.state.now c.args.name.now c.args.growth c.args.pvs.now g
    (c.args.number, c.args.lv.now)) ≡ None) c.group-found.ensures.group c.in_ok-judge_growth.ensures)).seqno

pub returns : goal.returns
returns c =
    planned_volume c.args.state.now c.args.name.now c.args.growth c.args.pvs.now c.args.now c.args.number c.args.lv.now
    c.group-found.result.now c.args.group.now c.group-found.ensures.group c.in_ok-judge_growth.ensures c.more_for-want.result
    (more_is c.args.state.now c.group-found.result.now c.args.group.now c.args.growth c.args.pvs.now c.args.lv.now c.pvs_named-on.result
    c.more_for-want.result c.group-found.ensures.group c.pvs_named-on.ensures c.more_for-want.ensures) c.in_ok-given.given
    c.in_ok-given.ensures.0 c.in_ok-given.ensures.1 c.in_ok-given.ensures.2 c.lengthen.result c.lengthen.ensures
