-- Each batch is added behind the others.
use Rattle.std.proofs.Common.{List, map, refl, sym, ap, subst, ◌∙◌}
use Rattle.std.specs.Prelude.{All, flat_map}
use Rattle.disk_batch.specs.InTurn.{Put}
use Rattle.group_plan.specs.declared.state.NewLabel.{NewLabel}
use Rattle.change_batches.specs.Batches.{area_puts, areas_of, label_put}
use Rattle.change_batches.specs.Building.{IsAdded, IsOnFew}
use Rattle.change_batches.proofs.AreaBatch.{areas_few}
use Rattle.change_batches.proofs.ChangeBatches.{all_read, all_run, all_writes, areas_added, group_added, has_room, no_areas, no_commit}
use Rattle.change_batches.proofs.LabelBatch.{labels_few}
use Rattle.change_batches.proofs.batches.batches_of.Goals as goal
use Rattle.change_batches.proofs.batches.batches_of.Goals.{then-is_none+in_ok-area_writes+in_ok-push_batch, else-is_none}
use Rattle.change_batches.proofs.batches.batches_of.Goals.{in-Some+in_ok-push_commit, in_default}

pub push_batch-requires : goal.push_batch-requires
push_batch-requires c =
    subst (All IsOnFew) (sym (c.in_ok-area_writes.ensures ∙ ap (λ (l : List NewLabel). flat_map area_puts l) c.as_slice.ensures))
    (areas_few c.args.change.now.labels c.requires.labels)

pub push_batch-requires-2 : goal.push_batch-requires-2
push_batch-requires-2 c =
    subst (All IsOnFew) (sym (c.in_ok-label_writes.ensures.writes ∙ ap (λ (l : List NewLabel). map label_put l) c.as_slice-2.ensures))
    (labels_few c.args.change.now.labels c.requires.labels)

pub push_commit-requires-clause-room : goal.push_commit-requires-clause-room
push_commit-requires-clause-room c =
    has_room c.args.areas.now c.args.change.now c.args.now c.in-Some.group c.group.result.now c.requires c.in-Some.is c.group.ensures.group

pub returns-clause-writes : goal.returns-clause-writes
returns-clause-writes c =
    all_writes c.args.change.now c.args.areas.now c.args.now c.if-is_none.batches.items c.push_batch-2.new.batches.items
    c.match-change.batches.items
    (elim c.if-is_none.branch [
      | then-is_none+in_ok-area_writes+in_ok-push_batch w ↦
          rw w.batches-is
          (areas_added c.args.change.now.group c.args.change.now.labels c.is_none.result c.new-batches.result.items
          w.push_batch.new.batches.items c.is_none.ensures w.if-is_none.true c.new-batches.ensures.items
          (subst (λ (l : List Put). IsAdded l c.new-batches.result.items w.push_batch.new.batches.items)
          (w.in_ok-area_writes.ensures ∙ ap (λ (l : List NewLabel). flat_map area_puts l) w.as_slice.ensures)
          w.in_ok-push_batch.ensures))
      | else-is_none w ↦ rw w.batches-is (no_areas c.args.change.now.group c.args.change.now.labels c.is_none.result
          c.new-batches.result.items c.is_none.ensures w.if-is_none.false c.new-batches.ensures.items)
    ])
    (subst (λ (l : List Put). IsAdded l c.if-is_none.batches.items c.push_batch-2.new.batches.items)
    (c.in_ok-label_writes.ensures.writes ∙ ap (λ (l : List NewLabel). map label_put l) c.as_slice-2.ensures)
    c.in_ok-push_batch-2.ensures)
    (elim c.match-change.branch [
      | in-Some+in_ok-push_commit w ↦
          rw w.batches-is
          (group_added c.args.change.now.group w.in-Some.group w.group.result.now (areas_of c.args.change.now c.args.areas.now)
          c.args.change.now.disk_of c.args.now c.push_batch-2.new.batches.items w.push_commit.new.batches.items
          w.in-Some.is w.group.ensures.group w.in_ok-push_commit.ensures)
      | in_default w ↦
          rw w.batches-is (no_commit c.args.change.now.group (areas_of c.args.change.now c.args.areas.now) c.args.change.now.disk_of
          c.args.now c.push_batch-2.new.batches.items c.push_batch-2.new.batches.items w.in_default.not-Some refl)
    ])

pub returns-clause-read_again : goal.returns-clause-read_again
returns-clause-read_again c =
    all_read c.args.change.now c.args.areas.now c.args.now c.push_batch-2.new.batches.items c.match-change.batches.items
    c.as_slice-2.result.now c.as_slice-2.ensures c.in_ok-label_writes.ensures.fits
    (elim c.match-change.branch [
      | in-Some+in_ok-push_commit w ↦
          rw w.batches-is
          (group_added c.args.change.now.group w.in-Some.group w.group.result.now (areas_of c.args.change.now c.args.areas.now)
          c.args.change.now.disk_of c.args.now c.push_batch-2.new.batches.items w.push_commit.new.batches.items
          w.in-Some.is w.group.ensures.group w.in_ok-push_commit.ensures)
      | in_default w ↦
          rw w.batches-is (no_commit c.args.change.now.group (areas_of c.args.change.now c.args.areas.now) c.args.change.now.disk_of
          c.args.now c.push_batch-2.new.batches.items c.push_batch-2.new.batches.items w.in_default.not-Some refl)
    ])

pub returns-clause-can_run : goal.returns-clause-can_run
returns-clause-can_run c =
    all_run c.args.change.now c.args.areas.now c.args.now c.if-is_none.batches.items c.push_batch-2.new.batches.items
    c.match-change.batches.items
    (elim c.if-is_none.branch [
      | then-is_none+in_ok-area_writes+in_ok-push_batch w ↦
          rw w.batches-is
          (areas_added c.args.change.now.group c.args.change.now.labels c.is_none.result c.new-batches.result.items
          w.push_batch.new.batches.items c.is_none.ensures w.if-is_none.true c.new-batches.ensures.items
          (subst (λ (l : List Put). IsAdded l c.new-batches.result.items w.push_batch.new.batches.items)
          (w.in_ok-area_writes.ensures ∙ ap (λ (l : List NewLabel). flat_map area_puts l) w.as_slice.ensures)
          w.in_ok-push_batch.ensures))
      | else-is_none w ↦ rw w.batches-is (no_areas c.args.change.now.group c.args.change.now.labels c.is_none.result
          c.new-batches.result.items c.is_none.ensures w.if-is_none.false c.new-batches.ensures.items)
    ])
    (subst (λ (l : List Put). IsAdded l c.if-is_none.batches.items c.push_batch-2.new.batches.items)
    (c.in_ok-label_writes.ensures.writes ∙ ap (λ (l : List NewLabel). map label_put l) c.as_slice-2.ensures)
    c.in_ok-push_batch-2.ensures)
    (elim c.match-change.branch [
      | in-Some+in_ok-push_commit w ↦
          rw w.batches-is
          (group_added c.args.change.now.group w.in-Some.group w.group.result.now (areas_of c.args.change.now c.args.areas.now)
          c.args.change.now.disk_of c.args.now c.push_batch-2.new.batches.items w.push_commit.new.batches.items
          w.in-Some.is w.group.ensures.group w.in_ok-push_commit.ensures)
      | in_default w ↦
          rw w.batches-is (no_commit c.args.change.now.group (areas_of c.args.change.now c.args.areas.now) c.args.change.now.disk_of
          c.args.now c.push_batch-2.new.batches.items c.push_batch-2.new.batches.items w.in_default.not-Some refl)
    ])
    c.requires
