use Rattle.std.proofs.Common.{List, Option, None, ◌≡◌, sym, ap, subst, ◌∙◌}
use Rattle.mda_header.specs.declared.header.Locn.{Locn}
use Rattle.mda_ring.specs.declared.area.Area.{Area}
use Rattle.meta_model.specs.declared.group.Group.{Group}
use Rattle.group_plan.proofs.Rows.{seqno_left}
use Rattle.group_plan.proofs.StateFacts.{areas_take}
use Rattle.group_plan.specs.Committing.{seqno_row}
use Rattle.group_plan.specs.Judging.{area_row}
use Rattle.lv_plans.proofs.RowsOnVolume.{not_locked, remove_plans}
use Rattle.lv_plans.specs.Volumes.{locked_row}
use Rattle.lv_plans.proofs.lvremove.remove_visible.Goals as goal

pub without_volume-requires-clause-still : goal.without_volume-requires-clause-still
without_volume-requires-clause-still c =
    not_locked c.args.group.now c.args.name.now c.args.number
    (subst (λ (g : Group). locked_row g c.args.name.now c.args.number ≡ None) c.group-found.ensures.group c.in_ok-judge_lock.ensures)

pub without_volume-requires-clause-seqno : goal.without_volume-requires-clause-seqno
without_volume-requires-clause-seqno c =
    seqno_left c.args.group.now (subst (λ (g : Group). seqno_row g ≡ None) c.group-found.ensures.group c.in_ok-judge_seqno.ensures)

pub commit_version-requires-clause-areas : goal.commit_version-requires-clause-areas
commit_version-requires-clause-areas c = areas_take c.args.state.now c.requires.state

pub returns : goal.returns
returns c =
    remove_plans c.args.state.now c.args.name.now c.args.now c.args.number c.group-found.result.now c.args.group.now c.in_ok-rest.rest
    c.commit_version.result
    c.group-found.ensures.group c.in_ok-rest.ensures c.in_ok-judge_lock.ensures
    (sym (ap (λ (l : List (Area × Option Locn)). area_row l c.as_slice-2.result.now) c.as_slice.ensures
    ∙ ap (area_row c.args.state.now.areas) c.as_slice-2.ensures) ∙ c.in_ok-judge_areas.ensures)
    c.in_ok-judge_seqno.ensures c.commit_version.ensures
