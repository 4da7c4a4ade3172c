use Rattle.std.proofs.Common.{[], ◌∷◌, sym, subst}
use Rattle.meta_model.specs.declared.segment.SegKind.{SegKind}
use Rattle.volume_rules.specs.declared.rule.Rule.TheVariants.{Segments}
use Rattle.group_edits.specs.NewVolume.{MayHave}
use Rattle.group_plan.proofs.StateFacts.{areas_take}
use Rattle.group_plan.specs.Committing.{length_row, zeroing_change}
use Rattle.lv_plans.proofs.Creating.{found_begins, has_volume}
use Rattle.lv_plans.proofs.GivenParts.{plans_within}
use Rattle.lv_plans.proofs.ZeroedExtents.{zeroed_within}
use Rattle.lv_plans.specs.Lvcreate.{kind_for}
use Rattle.lv_plans.proofs.lvcreate.add.Goals as goal

pub judge_segments-requires-clause-few : goal.judge_segments-requires-clause-few
judge_segments-requires-clause-few c = (c.group-found.ensures.accepted Segments).few

pub first_sectors-requires : goal.first_sectors-requires
first_sectors-requires c =
    found_begins c.group-found.result.now c.args.group.now c.args.new.now.lv c.args.id.now (kind_for c.args.new.now) c.args.given.now
    c.as_slice-2.result.now c.args.now c.group-found.ensures.group c.as_slice-2.ensures c.group-found.ensures.accepted
    (has_volume c.group-found.result.now c.args.group.now c.args.id.now (kind_for c.args.new.now) c.args.given.now c.args.now c.len.result
    c.group-found.ensures.group c.len.ensures c.in_ok-judge_segments.ensures c.requires.volume)

pub with_volume-requires-clause-volume : goal.with_volume-requires-clause-volume
with_volume-requires-clause-volume c =
    subst (λ (kind : SegKind). MayHave c.args.group.now c.args.id.now kind c.args.given.now c.args.now) (sym c.kind_for-kind.ensures)
    (has_volume c.group-found.result.now c.args.group.now c.args.id.now (kind_for c.args.new.now) c.args.given.now c.args.now c.len.result
    c.group-found.ensures.group c.len.ensures c.in_ok-judge_segments.ensures c.requires.volume)

pub commit_zeroed-requires-clause-areas : goal.commit_zeroed-requires-clause-areas
commit_zeroed-requires-clause-areas c = areas_take c.args.state.now c.requires.state

pub returns-clause-zeros : goal.returns-clause-zeros
returns-clause-zeros c =
    plans_within c.args.state.now.disks (length_row c.args.state.now c.in_ok-next.next c.args.now ∷ [])
    (zeroing_change c.args.state.now c.in_ok-zero.zero c.in_ok-next.next) c.commit_zeroed.result c.commit_zeroed.ensures
    (zeroed_within c.args.state.now c.requires.state c.group-found.result.now c.args.group.now c.group-found.ensures.group c.requires.found
    c.args.new.now.lv c.args.id.now (kind_for c.args.new.now) c.args.given.now c.as_slice-2.result.now c.as_slice-2.ensures
    c.args.now (has_volume c.group-found.result.now c.args.group.now c.args.id.now (kind_for c.args.new.now) c.args.given.now c.args.now
    c.len.result c.group-found.ensures.group c.len.ensures c.in_ok-judge_segments.ensures c.requires.volume)
    c.group-found.ensures.accepted
    c.as_slice.result.now c.as_slice.ensures c.in_ok-zero.zero c.in_ok-zero.ensures)
