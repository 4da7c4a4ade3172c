-- The rows on the group, and then its text.
use Rattle.std.proofs.Common.{[], ◌∷◌, subst}
use Rattle.std.proofs.lemmas.Result.{err_from_is_err_and}
use Rattle.meta_model.specs.declared.group.Group.{Group}
use Rattle.group_edits.specs.RenamedGroup.{renamed_group}
use Rattle.group_plan.proofs.Chained.{refused_front}
use Rattle.group_plan.proofs.StateFacts.{areas_take}
use Rattle.group_plan.specs.Committing.{length_row}
use Rattle.group_plan.specs.Judging.{IsRefusedBy, first_refusal}
use Rattle.vg_plans.specs.Vgrename.{rename_tests}
use Rattle.vg_plans.proofs.vgrename.rename.Goals as goal

pub returns-in_err-judge_rename : goal.returns-in_err-judge_rename
returns-in_err-judge_rename c =
    let p = err_from_is_err_and c.from_residual.result c.from_residual.ensures.1 in
    rw (p.1, p.2)
    (refused_front (rename_tests c.args.state.now c.args.vg.now c.args.new.now c.args.group.now)
    (length_row c.args.state.now (renamed_group c.args.group.now c.args.new.now) c.args.now ∷ []) _
    (subst (λ (g : Group). IsRefusedBy (first_refusal (rename_tests c.args.state.now c.args.vg.now c.args.new.now g))
    c.in_err-judge_rename.field-0.0) c.group.ensures.group c.in_err-judge_rename.ensures))

pub commit_version-requires-clause-areas : goal.commit_version-requires-clause-areas
commit_version-requires-clause-areas c = areas_take c.args.state.now c.requires.state
