use Rattle.std.proofs.Common.{◌≡◌, ℕ, [], ◌∷◌, Some, None, option_map, ap, subst, ◌∙◌}
use Rattle.line_answers.specs.declared.op_refusal.OpRefusal.TheVariants.{UnknownVolume}
use Rattle.meta_model.specs.declared.group.Group.{Group}
use Rattle.meta_model.specs.declared.lv.Lv.{Lv}
use Rattle.volume_rules.specs.declared.rule.Rule.TheVariants.{Volumes}
use Rattle.group_edits.specs.RenamedVolume.{renamed_volume}
use Rattle.group_edits.specs.Visible.{visible_named}
use Rattle.group_plan.proofs.Chained.{plans_back}
use Rattle.group_plan.specs.Committing.{named_rows, version_change}
use Rattle.group_plan.specs.Judging.{first_refusal}
use Rattle.lv_plans.proofs.RowsOnVolume.{plans_on}
use Rattle.lv_plans.specs.Lvrename.{rename_lv_rows}
use Rattle.lv_plans.specs.Volumes.{rows_on}
use Rattle.lv_plans.proofs.lvrename.rename.Goals as goal

pub find_visible-requires : goal.find_visible-requires
find_visible-requires c = (c.group-2.ensures.accepted Volumes).lvs

pub rename_visible-requires-clause-volume : goal.rename_visible-requires-clause-volume
rename_visible-requires-clause-volume c =
    c.in-Some.ensures.found ∙ ap (λ (g : Group). option_map (λ (v : ℕ × Lv). v.0) (visible_named g c.args.old.now)) c.group-2.ensures.group

pub returns-in-Some : goal.returns-in-Some
returns-in-Some c =
    plans_back (named_rows c.args.group.now c.args.vg.now)
    (rows_on c.args.group.now c.args.old.now
    (rename_lv_rows c.args.state.now c.args.old.now c.args.new.now c.args.now c.args.group.now))
    (version_change c.args.state.now (renamed_volume c.args.old.now c.args.new.now c.args.group.now)) c.rename_visible.result
    (subst (λ (g : Group). first_refusal (named_rows g c.args.vg.now) ≡ None) c.group.ensures.group c.in_ok-judge_named.ensures)
    (plans_on (visible_named c.args.group.now c.args.old.now) c.in-Some.number
    (rename_lv_rows c.args.state.now c.args.old.now c.args.new.now c.args.now c.args.group.now)
    (Some (UnknownVolume c.args.old.now) ∷ [])
    (version_change c.args.state.now (renamed_volume c.args.old.now c.args.new.now c.args.group.now)) c.rename_visible.result
    (c.in-Some.ensures.found ∙ ap (λ (g : Group). option_map (λ (v : ℕ × Lv). v.0) (visible_named g c.args.old.now))
    c.group-2.ensures.group)
    (λ lv. c.rename_visible.ensures lv))
