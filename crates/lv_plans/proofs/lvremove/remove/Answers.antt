use Rattle.std.proofs.Common.{◌≡◌, ℕ, [], ◌∷◌, Some, None, option_map, ap, subst, ◌∙◌}
use Rattle.line_answers.specs.declared.op_refusal.OpRefusal.TheVariants.{UnknownVolume}
use Rattle.meta_model.specs.declared.group.Group.{Group}
use Rattle.meta_model.specs.declared.lv.Lv.{Lv}
use Rattle.volume_rules.specs.declared.rule.Rule.TheVariants.{Volumes}
use Rattle.group_edits.specs.Visible.{IsVisible, visible_named}
use Rattle.group_plan.proofs.Chained.{plans_back}
use Rattle.group_plan.specs.Committing.{named_rows}
use Rattle.group_plan.specs.Judging.{first_refusal}
use Rattle.lv_plans.proofs.RowsOnVolume.{removes_on}
use Rattle.lv_plans.specs.Lvremove.{remove_change, remove_lv_rows}
use Rattle.lv_plans.specs.Volumes.{rows_on}
use Rattle.lv_plans.proofs.lvremove.remove.Goals as goal

pub find_visible-requires : goal.find_visible-requires
find_visible-requires c = (c.group-2.ensures.accepted Volumes).lvs

pub remove_visible-requires-clause-visible : goal.remove_visible-requires-clause-visible
remove_visible-requires-clause-visible c =
    subst (λ (g : Group). IsVisible g c.in-Some.number) c.group-2.ensures.group c.in-Some.ensures.visible

pub returns-in-Some : goal.returns-in-Some
returns-in-Some c =
    plans_back (named_rows c.args.group.now c.args.path.now.vg)
    (rows_on c.args.group.now c.args.path.now.lv (remove_lv_rows c.args.state.now c.args.path.now.lv c.args.now c.args.group.now))
    (remove_change c.args.state.now c.args.path.now.lv c.args.group.now) c.remove_visible.result
    (subst (λ (g : Group). first_refusal (named_rows g c.args.path.now.vg) ≡ None) c.group.ensures.group c.in_ok-judge_named.ensures)
    (removes_on c.args.state.now c.args.group.now c.in-Some.number (visible_named c.args.group.now c.args.path.now.lv)
    (remove_lv_rows c.args.state.now c.args.path.now.lv c.args.now c.args.group.now) (Some (UnknownVolume c.args.path.now.lv) ∷ [])
    c.remove_visible.result
    (c.in-Some.ensures.found ∙ ap (λ (g : Group). option_map (λ (v : ℕ × Lv). v.0) (visible_named g c.args.path.now.lv))
    c.group-2.ensures.group)
    (λ lv. c.remove_visible.ensures lv))
