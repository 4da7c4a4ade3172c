-- The rows on both groups, then on the shape, then on which group it is.
use Rattle.std.proofs.Common.{◌≡◌, List, [], ◌∷◌, ◌++◌, None, subst}
use Rattle.std.proofs.lemmas.Result.{err_from_is_err_and}
use Rattle.meta_model.specs.declared.group.Group.{Group}
use Rattle.vg_found.specs.declared.disk.Disk.{Disk}
use Rattle.group_plan.proofs.Chained.{judges_back, none_both, none_row, one_row, refused_back, refused_front}
use Rattle.group_plan.specs.Judging.{IsRefusedBy, Judges, first_refusal}
use Rattle.vg_plans.specs.Vgcfgrestore.{both_rows, other_group_rows, shape_row}
use Rattle.vg_plans.proofs.vgcfgrestore.judge_sound.Goals as goal

pub returns-in_err-judge_both : goal.returns-in_err-judge_both
returns-in_err-judge_both c =
    let p = err_from_is_err_and c.from_residual.result c.from_residual.ensures.1 in
    let state = c.args.state.now in
    rw (p.1, p.2)
    (refused_front (both_rows state c.args.found.now c.args.said.now)
    (shape_row c.args.said.now state.disks ∷ other_group_rows c.args.said.now c.args.found.now) _
    (subst (λ (g : Group). IsRefusedBy (first_refusal (both_rows state g c.args.said.now)) c.in_err-judge_both.field-0.0)
    c.group.ensures.group
    (subst (λ (g : Group). IsRefusedBy (first_refusal (both_rows state c.group.result.now g)) c.in_err-judge_both.field-0.0)
    c.group-2.ensures.group c.in_err-judge_both.ensures)))

pub returns-in_err-judge_shape : goal.returns-in_err-judge_shape
returns-in_err-judge_shape c =
    let p = err_from_is_err_and c.from_residual-in_err-judge_shape.result c.from_residual-in_err-judge_shape.ensures.1 in
    let state = c.args.state.now in
    let none =
    subst (λ (g : Group). first_refusal (both_rows state g c.args.said.now) ≡ None) c.group.ensures.group
    (subst (λ (g : Group). first_refusal (both_rows state c.group.result.now g) ≡ None) c.group-2.ensures.group c.in_ok-judge_both.ensures)
    in
    rw (p.1, p.2)
    (refused_back (both_rows state c.args.found.now c.args.said.now)
    (shape_row c.args.said.now state.disks ∷ other_group_rows c.args.said.now c.args.found.now) _ none
    (refused_front (shape_row c.args.said.now state.disks ∷ []) (other_group_rows c.args.said.now c.args.found.now) _
    (one_row (shape_row c.args.said.now state.disks) _
    (subst (λ (g : Group). IsRefusedBy (shape_row g state.disks) c.in_err-judge_shape.field-0.0) c.in_ok-said.ensures
    (subst (λ (l : List Disk). IsRefusedBy (shape_row c.in_ok-said.said l) c.in_err-judge_shape.field-0.0) c.as_slice.ensures
    c.in_err-judge_shape.ensures)))))

pub returns : goal.returns
returns c =
    let state = c.args.state.now in
    let none =
    subst (λ (g : Group). first_refusal (both_rows state g c.args.said.now) ≡ None) c.group.ensures.group
    (subst (λ (g : Group). first_refusal (both_rows state c.group.result.now g) ≡ None) c.group-2.ensures.group c.in_ok-judge_both.ensures)
    in
    let shaped =
    subst (λ (g : Group). shape_row g state.disks ≡ None) c.in_ok-said.ensures
    (subst (λ (l : List Disk). shape_row c.in_ok-said.said l ≡ None) c.as_slice.ensures c.in_ok-judge_shape.ensures)
    in
    judges_back (both_rows state c.args.found.now c.args.said.now ++ shape_row c.args.said.now state.disks ∷ [])
    (other_group_rows c.args.said.now c.args.found.now) c.judge_other.result
    (none_both (both_rows state c.args.found.now c.args.said.now) (shape_row c.args.said.now state.disks ∷ []) none
    (none_row (shape_row c.args.said.now state.disks) shaped))
    (subst (λ (g : Group). Judges c.judge_other.result (first_refusal (other_group_rows g c.args.found.now))) c.in_ok-said.ensures
    (subst (λ (g : Group). Judges c.judge_other.result (first_refusal (other_group_rows c.in_ok-said.said g))) c.in_ok-found.ensures
    c.judge_other.ensures))
