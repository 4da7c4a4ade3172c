-- The rows on the text's group, and then its restored text.
use Rattle.std.proofs.Common.{◌≡◌, ℕ, List, [], ◌∷◌, None, sym, ap, subst, ◌∙◌}
use Rattle.std.specs.Prelude.{All}
use Rattle.std.proofs.lemmas.Result.{err_from_is_err_and}
use Rattle.meta_model.specs.declared.group.Group.{Group}
use Rattle.vg_found.specs.Disks.{disks_of}
use Rattle.vg_found.specs.declared.disk.Disk.{Disk}
use Rattle.group_edits.specs.RestoredGroup.{restored_group}
use Rattle.group_plan.proofs.Chained.{plans_back, refused_front}
use Rattle.group_plan.proofs.StateFacts.{IsBelow, areas_take}
use Rattle.group_plan.specs.Judging.{first_refusal}
use Rattle.group_plan.specs.Committing.{length_row_on, version_change_on}
use Rattle.group_plan.specs.Plans.{Plans}
use Rattle.vg_plans.proofs.SoundBackup.{sound_disks}
use Rattle.vg_plans.specs.Vgcfgrestore.{sound_tests}
use Rattle.vg_plans.proofs.vgcfgrestore.restore_group.Goals as goal

pub returns-in_err-judge_sound : goal.returns-in_err-judge_sound
returns-in_err-judge_sound c =
    let p = err_from_is_err_and c.from_residual.result c.from_residual.ensures.1 in
    let state = c.args.state.now in
    rw (p.1, p.2)
    (refused_front (sound_tests state c.args.found.now c.args.said.now)
    (length_row_on state (disks_of c.args.said.now state.disks) (restored_group c.args.found.now c.args.said.now) c.args.now ∷ []) _
    c.in_err-judge_sound.ensures)

pub commit_version_on-requires-clause-disks : goal.commit_version_on-requires-clause-disks
commit_version_on-requires-clause-disks c =
    let state = c.args.state.now in
    let none : first_refusal (sound_tests state c.args.found.now c.args.said.now) ≡ None = c.in_ok-judge_sound.ensures in
    subst (All IsBelow)
    (sym (c.in_ok-disk_of.ensures ∙ ap (λ (g : Group). disks_of g c.as_slice.result.now) c.group.ensures.group
    ∙ ap (λ (l : List Disk). disks_of c.args.said.now l) c.as_slice.ensures))
    (sound_disks state c.requires.state c.args.found.now c.args.said.now c.requires.found none)

pub commit_version_on-requires-clause-areas : goal.commit_version_on-requires-clause-areas
commit_version_on-requires-clause-areas c = areas_take c.args.state.now c.requires.state

pub returns : goal.returns
returns c =
    let state = c.args.state.now in
    let none : first_refusal (sound_tests state c.args.found.now c.args.said.now) ≡ None = c.in_ok-judge_sound.ensures in
    let next : c.in_ok-next.next ≡ restored_group c.args.found.now c.args.said.now = c.in_ok-next.ensures in
    let disks : c.in_ok-disk_of.disk_of ≡ disks_of c.args.said.now state.disks =
    c.in_ok-disk_of.ensures ∙ ap (λ (g : Group). disks_of g c.as_slice.result.now) c.group.ensures.group
    ∙ ap (λ (l : List Disk). disks_of c.args.said.now l) c.as_slice.ensures
    in
    plans_back (sound_tests state c.args.found.now c.args.said.now)
    (length_row_on state (disks_of c.args.said.now state.disks) (restored_group c.args.found.now c.args.said.now) c.args.now ∷ [])
    (version_change_on (disks_of c.args.said.now state.disks) (restored_group c.args.found.now c.args.said.now)) c.commit_version_on.result
    none
    (subst (λ (l : List ℕ). Plans (length_row_on state l (restored_group c.args.found.now c.args.said.now) c.args.now ∷ [])
    (version_change_on l (restored_group c.args.found.now c.args.said.now)) c.commit_version_on.result) disks
    (subst (λ (g : Group). Plans (length_row_on state c.in_ok-disk_of.disk_of g c.args.now ∷ [])
    (version_change_on c.in_ok-disk_of.disk_of g) c.commit_version_on.result) next c.commit_version_on.ensures))
