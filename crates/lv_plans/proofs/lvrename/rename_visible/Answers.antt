use Rattle.std.proofs.Common.{List, Option, sym, ap, ◌∙◌, subst, ℕ, ◌≡◌, None}
use Rattle.lvm_name.specs.Names.{volume_name_refusal}
use Rattle.mda_header.specs.declared.header.Locn.{Locn}
use Rattle.mda_ring.specs.declared.area.Area.{Area}
use Rattle.meta_model.specs.declared.group.Group.{Group}
use Rattle.group_edits.specs.Visible.{visible_named}
use Rattle.group_plan.proofs.Rows.{seqno_left}
use Rattle.group_plan.proofs.StateFacts.{areas_take}
use Rattle.group_plan.specs.Committing.{seqno_row}
use Rattle.group_plan.specs.Judging.{area_row}
use Rattle.lv_plans.proofs.RowsOnVolume.{name_free, named_is_some, rename_plans}
use Rattle.lv_plans.specs.Volumes.{taken_row}
use Rattle.lv_plans.proofs.lvrename.rename_visible.Goals as goal

pub renamed_volume-requires-clause-there : goal.renamed_volume-requires-clause-there
renamed_volume-requires-clause-there c = named_is_some (visible_named c.args.group.now c.args.old.now) c.args.number c.requires.volume

pub renamed_volume-requires-clause-free : goal.renamed_volume-requires-clause-free
renamed_volume-requires-clause-free c =
    name_free c.args.group.now c.in_ok-name.name
    (subst (λ (g : Group). taken_row g c.in_ok-name.name ≡ None) c.group-found.ensures.group c.in_ok-judge_name.ensures)

pub renamed_volume-requires-clause-valid : goal.renamed_volume-requires-clause-valid
renamed_volume-requires-clause-valid c = subst (λ (n : List ℕ). volume_name_refusal n ≡ None) (sym c.in_ok-name.ensures) c.requires.name

pub renamed_volume-requires-clause-seqno : goal.renamed_volume-requires-clause-seqno
renamed_volume-requires-clause-seqno c =
    seqno_left c.args.group.now (subst (λ (g : Group). seqno_row g ≡ None) c.group-found.ensures.group c.in_ok-judge_seqno.ensures)

pub commit_version-requires-clause-areas : goal.commit_version-requires-clause-areas
commit_version-requires-clause-areas c = areas_take c.args.state.now c.requires.state

pub returns : goal.returns
returns c =
    rename_plans c.args.state.now c.args.old.now c.in_ok-name.name c.args.new.now c.args.now c.args.number c.group-found.result.now
    c.args.group.now c.in_ok-next.next c.commit_version.result
    c.group-found.ensures.group c.in_ok-name.ensures c.in_ok-next.ensures c.in_ok-judge_name.ensures c.in_ok-judge_lock.ensures
    (sym (ap (λ (l : List (Area × Option Locn)). area_row l c.as_slice-2.result.now) c.as_slice.ensures
    ∙ ap (area_row c.args.state.now.areas) c.as_slice-2.ensures) ∙ c.in_ok-judge_areas.ensures)
    c.in_ok-judge_seqno.ensures c.commit_version.ensures
