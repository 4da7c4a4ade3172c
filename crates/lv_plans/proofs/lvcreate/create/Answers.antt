use Rattle.std.proofs.Common.{ap, subst, ◌∙◌, arith}
use Rattle.std.proofs.lemmas.Result.{err_from_is_err_and}
use Rattle.volume_rules.specs.Rules.{IsAccepted}
use Rattle.volume_rules.specs.declared.rule.Rule.TheVariants.{Numbers, Volumes}
use Rattle.group_plan.proofs.PlacedGroup.{few_listed}
use Rattle.group_plan.specs.Members.{pvs_named}
use Rattle.lv_plans.proofs.Creating.{asks_well, few_given, free_name, may_add, planned_new, refused_limits, refused_names, refused_room}
use Rattle.lv_plans.proofs.Creating.{seqno_free, want_is}
use Rattle.lv_plans.proofs.lvcreate.create.Goals as goal

pub judge_names-requires-clause-few : goal.judge_names-requires-clause-few
judge_names-requires-clause-few c =
    few_listed c.args.state.now c.requires.state c.args.group.now c.requires.found
    (subst IsAccepted c.group-found.ensures.group c.group-found.ensures.accepted)

pub returns-in_err-judge_names-clause-plans : goal.returns-in_err-judge_names-clause-plans
returns-in_err-judge_names-clause-plans c =
    let p = err_from_is_err_and c.from_residual.result c.from_residual.ensures.1 in
    rw (p.1, p.2) (refused_names c.args.state.now c.args.id.now c.args.new.now c.args.now c.group-found.result.now c.args.group.now
    c.group-found.ensures.group _ c.in_err-judge_names.ensures)

pub judge_limits-requires-clause-few : goal.judge_limits-requires-clause-few
judge_limits-requires-clause-few c = (c.group-found.ensures.accepted Volumes).lvs

pub returns-in_err-judge_limits-clause-plans : goal.returns-in_err-judge_limits-clause-plans
returns-in_err-judge_limits-clause-plans c =
    let p = err_from_is_err_and c.from_residual-in_err-judge_limits.result c.from_residual-in_err-judge_limits.ensures.1 in
    rw (p.1, p.2) (refused_limits c.args.state.now c.args.id.now c.args.new.now c.args.now c.group-found.result.now c.args.group.now
    c.group-found.ensures.group c.in_ok-judge_names.ensures _ c.in_err-judge_limits.ensures)

pub pvs_named-on-requires-clause-few : goal.pvs_named-on-requires-clause-few
pvs_named-on-requires-clause-few c =
    few_listed c.args.state.now c.requires.state c.args.group.now c.requires.found
    (subst IsAccepted c.group-found.ensures.group c.group-found.ensures.accepted)

pub want_on-want-requires-clause-size : goal.want_on-want-requires-clause-size
want_on-want-requires-clause-size c = let least = (c.group-found.ensures.accepted Numbers).extent_size.0 in omega (arith, least)

pub take_extents-requires : goal.take_extents-requires
take_extents-requires c =
    asks_well c.args.state.now c.group-found.result.now c.args.group.now c.group-found.ensures.group c.args.new.now c.requires.state
    c.requires.found (subst IsAccepted c.group-found.ensures.group c.group-found.ensures.accepted) c.requires.new
    c.want_on-want.result (want_is c.args.state.now c.group-found.result.now c.args.group.now c.args.new.now c.pvs_named-on.result
    c.want_on-want.result c.group-found.ensures.group (c.pvs_named-on.ensures ∙ ap (pvs_named c.args.state.now) c.as_slice.ensures)
    c.want_on-want.ensures)

pub returns-in_err-given-clause-plans : goal.returns-in_err-given-clause-plans
returns-in_err-given-clause-plans c =
    let p = err_from_is_err_and c.from_residual-in_err-given.result c.from_residual-in_err-given.ensures.1 in
    rw (p.1, p.2) (refused_room c.args.state.now c.args.id.now c.args.new.now c.args.now c.group-found.result.now c.args.group.now
    c.group-found.ensures.group c.in_ok-judge_names.ensures c.in_ok-judge_limits.ensures
    c.want_on-want.result (want_is c.args.state.now c.group-found.result.now c.args.group.now c.args.new.now c.pvs_named-on.result
    c.want_on-want.result c.group-found.ensures.group (c.pvs_named-on.ensures ∙ ap (pvs_named c.args.state.now) c.as_slice.ensures)
    c.want_on-want.ensures) _ c.in_err-given.ensures)

pub add-requires-clause-free : goal.add-requires-clause-free
add-requires-clause-free c =
    free_name c.args.state.now c.group-found.result.now c.args.group.now c.group-found.ensures.group c.args.new.now
    c.in_ok-judge_names.ensures

pub add-requires-clause-volume : goal.add-requires-clause-volume
add-requires-clause-volume c =
    may_add c.args.state.now c.group-found.result.now c.args.group.now c.group-found.ensures.group c.args.new.now c.requires.state
    c.requires.found (subst IsAccepted c.group-found.ensures.group c.group-found.ensures.accepted) c.requires.new
    c.want_on-want.result (want_is c.args.state.now c.group-found.result.now c.args.group.now c.args.new.now c.pvs_named-on.result
    c.want_on-want.result c.group-found.ensures.group (c.pvs_named-on.ensures ∙ ap (pvs_named c.args.state.now) c.as_slice.ensures)
    c.want_on-want.ensures)
    c.args.id.now c.args.now c.requires.time c.in_ok-judge_limits.ensures c.in_ok-given.given c.in_ok-given.ensures.0

pub add-requires-clause-few : goal.add-requires-clause-few
add-requires-clause-few c =
    few_given c.args.state.now c.group-found.result.now c.args.group.now c.group-found.ensures.group c.args.new.now c.requires.state
    c.requires.found (subst IsAccepted c.group-found.ensures.group c.group-found.ensures.accepted) c.requires.new
    c.want_on-want.result (want_is c.args.state.now c.group-found.result.now c.args.group.now c.args.new.now c.pvs_named-on.result
    c.want_on-want.result c.group-found.ensures.group (c.pvs_named-on.ensures ∙ ap (pvs_named c.args.state.now) c.as_slice.ensures)
    c.want_on-want.ensures)
    c.in_ok-given.given c.in_ok-given.ensures.0

pub add-requires-clause-seqno : goal.add-requires-clause-seqno
add-requires-clause-seqno c =
    seqno_free c.args.state.now c.group-found.result.now c.args.group.now c.group-found.ensures.group c.args.new.now c.args.id.now
    c.in_ok-judge_limits.ensures

pub returns-clause-plans : goal.returns-clause-plans
returns-clause-plans c =
    planned_new c.args.state.now c.args.id.now c.args.new.now c.args.now c.group-found.result.now c.args.group.now
    c.group-found.ensures.group c.in_ok-judge_names.ensures c.in_ok-judge_limits.ensures
    c.want_on-want.result (want_is c.args.state.now c.group-found.result.now c.args.group.now c.args.new.now c.pvs_named-on.result
    c.want_on-want.result c.group-found.ensures.group (c.pvs_named-on.ensures ∙ ap (pvs_named c.args.state.now) c.as_slice.ensures)
    c.want_on-want.ensures)
    c.in_ok-given.given c.in_ok-given.ensures.0 c.in_ok-given.ensures.1 c.in_ok-given.ensures.2 c.add.result c.add.ensures.plans
