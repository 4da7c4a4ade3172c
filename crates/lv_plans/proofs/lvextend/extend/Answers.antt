use Rattle.std.proofs.Common.{ℕ, option_map, sym, ap, ◌∙◌}
use Rattle.std.specs.Prelude.{slice_get}
use Rattle.std.proofs.lemmas.Result.{err_from_is_err_and}
use Rattle.meta_model.specs.declared.group.Group.{Group}
use Rattle.meta_model.specs.declared.lv.Lv.{Lv}
use Rattle.volume_rules.specs.declared.rule.Rule.TheVariants.{Volumes}
use Rattle.group_edits.proofs.OneNamed.{named_is}
use Rattle.group_edits.specs.Visible.{visible_named}
use Rattle.lv_plans.proofs.Extending.{plans_named, refused_named}
use Rattle.lv_plans.proofs.Reducing.{visible_within}
use Rattle.lv_plans.proofs.lvextend.extend.Goals as goal

pub returns-in_err-judge_named : goal.returns-in_err-judge_named
returns-in_err-judge_named c =
    let p = err_from_is_err_and c.from_residual.result c.from_residual.ensures.1 in
    rw (p.1, p.2) (refused_named c.args.state.now c.args.path.now c.args.growth c.args.pvs.now c.args.now c.group-found.result.now
    c.args.group.now _ c.group-found.ensures.group c.in_err-judge_named.ensures)

pub find_visible-requires : goal.find_visible-requires
find_visible-requires c = (c.group-found.ensures.accepted Volumes).lvs

pub get-requires : goal.get-requires
get-requires c = visible_within c.group-found.result.now c.in-Some.number c.in-Some.ensures.visible

pub extend_visible-requires-clause-volume : goal.extend_visible-requires-clause-volume
extend_visible-requires-clause-volume c =
    named_is c.args.group.now c.args.path.now.lv c.in-Some.number (c.get.result.0.now, c.get.result.1.now)
    (c.in-Some.ensures.found ∙ ap (λ (g : Group). option_map (λ (v : ℕ × Lv). v.0) (visible_named g c.args.path.now.lv))
    c.group-found.ensures.group)
    (sym (ap (λ (g : Group). slice_get g.lvs c.in-Some.number) c.group-found.ensures.group) ∙ c.get.ensures)

pub returns-in-Some : goal.returns-in-Some
returns-in-Some c =
    plans_named c.args.state.now c.args.path.now c.args.growth c.args.pvs.now c.args.now c.group-found.result.now c.args.group.now
    (c.in-Some.number, c.get.result.1.now) c.extend_visible.result c.group-found.ensures.group c.in_ok-judge_named.ensures
    (named_is c.args.group.now c.args.path.now.lv c.in-Some.number (c.get.result.0.now, c.get.result.1.now)
    (c.in-Some.ensures.found ∙ ap (λ (g : Group). option_map (λ (v : ℕ × Lv). v.0) (visible_named g c.args.path.now.lv))
    c.group-found.ensures.group)
    (sym (ap (λ (g : Group). slice_get g.lvs c.in-Some.number) c.group-found.ensures.group) ∙ c.get.ensures))
    c.extend_visible.ensures
