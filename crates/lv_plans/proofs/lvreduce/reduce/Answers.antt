use Rattle.std.proofs.Common.{◌≡◌, ℕ, [], ◌∷◌, Some, None, option_map, sym, ap, subst, ◌∙◌}
use Rattle.std.specs.Prelude.{slice_get}
use Rattle.line_answers.specs.declared.op_refusal.OpRefusal.TheVariants.{UnknownVolume}
use Rattle.meta_model.specs.declared.group.Group.{Group}
use Rattle.meta_model.specs.declared.lv.Lv.{Lv}
use Rattle.volume_rules.specs.declared.rule.Rule.TheVariants.{Volumes}
use Rattle.group_edits.proofs.OneNamed.{named_is}
use Rattle.group_edits.specs.Visible.{visible_named}
use Rattle.group_plan.proofs.Chained.{plans_back}
use Rattle.group_plan.specs.Committing.{named_rows, no_change, version_change}
use Rattle.group_plan.specs.Judging.{first_refusal}
use Rattle.lv_plans.proofs.Reducing.{plans_there, visible_within}
use Rattle.lv_plans.specs.Lvreduce.{reduce_change, reduce_lv_rows, reduced_group}
use Rattle.lv_plans.specs.Volumes.{rows_on}
use Rattle.lv_plans.proofs.lvreduce.reduce.Goals as goal

pub find_visible-requires : goal.find_visible-requires
find_visible-requires c = (c.group-found.ensures.accepted Volumes).lvs

pub get-requires : goal.get-requires
get-requires c = visible_within c.group-found.result.now c.in-Some.number c.in-Some.ensures.visible

pub reduce_visible-requires-clause-volume : goal.reduce_visible-requires-clause-volume
reduce_visible-requires-clause-volume c =
    named_is c.args.group.now c.args.path.now.lv c.in-Some.number (c.get.result.0.now, c.get.result.1.now)
    (c.in-Some.ensures.found ∙ ap (λ (g : Group). option_map (λ (v : ℕ × Lv). v.0) (visible_named g c.args.path.now.lv))
    c.group-found.ensures.group)
    (sym (ap (λ (g : Group). slice_get g.lvs c.in-Some.number) c.group-found.ensures.group) ∙ c.get.ensures)

pub returns-in-Some : goal.returns-in-Some
returns-in-Some c =
    plans_back (named_rows c.args.group.now c.args.path.now.vg)
    (rows_on c.args.group.now c.args.path.now.lv
    (reduce_lv_rows c.args.state.now c.args.path.now.lv c.args.amount c.args.now c.args.group.now))
    (reduce_change c.args.state.now c.args.path.now.lv c.args.amount c.args.group.now) c.reduce_visible.result
    (subst (λ (g : Group). first_refusal (named_rows g c.args.path.now.vg) ≡ None) c.group-found.ensures.group c.in_ok-judge_named.ensures)
    (plans_there (visible_named c.args.group.now c.args.path.now.lv) (c.in-Some.number, c.get.result.1.now)
    (reduce_lv_rows c.args.state.now c.args.path.now.lv c.args.amount c.args.now c.args.group.now)
    (Some (UnknownVolume c.args.path.now.lv) ∷ [])
    (λ (v : ℕ × Lv). version_change c.args.state.now (reduced_group c.args.path.now.lv c.args.amount c.args.group.now v.1))
    (no_change c.args.state.now) c.reduce_visible.result
    (named_is c.args.group.now c.args.path.now.lv c.in-Some.number (c.get.result.0.now, c.get.result.1.now)
    (c.in-Some.ensures.found ∙ ap (λ (g : Group). option_map (λ (v : ℕ × Lv). v.0) (visible_named g c.args.path.now.lv))
    c.group-found.ensures.group)
    (sym (ap (λ (g : Group). slice_get g.lvs c.in-Some.number) c.group-found.ensures.group) ∙ c.get.ensures))
    c.reduce_visible.ensures)
