-- The label sectors are added.
use Rattle.std.proofs.Common.{List, map, sym, ap, subst, ◌∙◌}
use Rattle.std.specs.Prelude.{All}
use Rattle.disk_batch.specs.InTurn.{Put}
use Rattle.vg_found.specs.Disks.{held_areas}
use Rattle.group_plan.specs.Cleared.{marked_labels}
use Rattle.group_plan.specs.declared.state.NewLabel.{NewLabel}
use Rattle.change_batches.specs.Batches.{label_put}
use Rattle.change_batches.specs.Building.{IsAdded, IsOnFew}
use Rattle.change_batches.specs.Sound.{CanLabel, FitsFields}
use Rattle.change_batches.proofs.LabelBatch.{labels_few}
use Rattle.change_batches.proofs.MarkedLabels.{labels_added, labels_can}
use Rattle.change_batches.proofs.marked_labels.push_labels.Goals as goal

pub label_writes-requires : goal.label_writes-requires
label_writes-requires c =
    subst (All CanLabel) (sym (c.deref.ensures.value ∙ c.in_ok-labels.ensures))
    (labels_can c.args.disks.now (held_areas 0 c.args.disks.now) c.requires c.args.in_use c.args.among)

pub push_batch-requires : goal.push_batch-requires
push_batch-requires c =
    subst (All IsOnFew) (sym (c.in_ok-list.ensures.writes
    ∙ ap (λ (l : List NewLabel). map label_put l) (c.deref.ensures.value ∙ c.in_ok-labels.ensures)))
    (labels_few (marked_labels c.args.in_use c.args.among c.args.disks.now)
    (labels_can c.args.disks.now (held_areas 0 c.args.disks.now) c.requires c.args.in_use c.args.among))

pub returns : goal.returns
returns c =
    let labels = c.deref.ensures.value ∙ c.in_ok-labels.ensures in
    labels_added c.args.disks.now (held_areas 0 c.args.disks.now) c.requires c.args.in_use c.args.among c.args.batches.now.items
    c.push_batch.new.batches.items
    (subst (λ (l : List Put). IsAdded l c.args.batches.now.items c.push_batch.new.batches.items)
    (c.in_ok-list.ensures.writes ∙ ap (λ (l : List NewLabel). map label_put l) labels) c.in_ok-push_batch.ensures)
    (subst (All FitsFields) labels c.in_ok-list.ensures.fits)
