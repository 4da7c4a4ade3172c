-- The rows on the group that was found, and then those on what the text gives.
use Rattle.std.proofs.Common.{◌≡◌, None, subst}
use Rattle.std.proofs.lemmas.Result.{err_from_is_err_and}
use Rattle.meta_model.specs.declared.group.Group.{Group}
use Rattle.group_plan.proofs.Chained.{plans_back, refused_front}
use Rattle.group_plan.specs.Committing.{named_rows}
use Rattle.group_plan.specs.Judging.{IsRefusedBy, first_refusal}
use Rattle.vg_plans.specs.Vgcfgrestore.{backup_change, backup_rows}
use Rattle.vg_plans.proofs.vgcfgrestore.restore.Goals as goal

pub returns-in_err-judge_named : goal.returns-in_err-judge_named
returns-in_err-judge_named c =
    let p = err_from_is_err_and c.from_residual.result c.from_residual.ensures.1 in
    rw (p.1, p.2)
    (refused_front (named_rows c.args.found.now c.args.vg.now) (backup_rows c.args.state.now c.args.found.now c.args.backup.now c.args.now)
    _
    (subst (λ (g : Group). IsRefusedBy (first_refusal (named_rows g c.args.vg.now)) c.in_err-judge_named.field-0.0) c.group.ensures.group
    c.in_err-judge_named.ensures))

pub returns : goal.returns
returns c =
    plans_back (named_rows c.args.found.now c.args.vg.now) (backup_rows c.args.state.now c.args.found.now c.args.backup.now c.args.now)
    (backup_change c.args.state.now c.args.backup.now c.args.found.now) c.restore_from.result
    (subst (λ (g : Group). first_refusal (named_rows g c.args.vg.now) ≡ None) c.group.ensures.group c.in_ok-judge_named.ensures)
    c.restore_from.ensures
