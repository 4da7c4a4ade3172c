-- The label sectors are added, and then the headers.
use Rattle.std.proofs.Common.{List, refl, sym, subst}
use Rattle.std.specs.Prelude.{All}
use Rattle.disk_batch.specs.InTurn.{Put}
use Rattle.group_plan.specs.Cleared.{cleared_areas}
use Rattle.change_batches.specs.Building.{IsAdded, IsOnFew}
use Rattle.change_batches.proofs.ClearBatch.{clear_few}
use Rattle.change_batches.proofs.ClearedAreas.{cleared_held}
use Rattle.change_batches.proofs.ClearsAdded.{clears_added}
use Rattle.change_batches.proofs.clears.push_clears.Goals as goal

pub push_labels-requires : goal.push_labels-requires
push_labels-requires c = record { few = c.requires.few; each = c.requires.each; held = refl }

pub push_batch-requires : goal.push_batch-requires
push_batch-requires c =
    subst (All IsOnFew) (sym c.in_ok-headers.ensures)
    (clear_few (cleared_areas c.args.cleared c.args.areas.now)
    (cleared_held c.args.disks.now c.args.areas.now c.requires c.args.cleared))

pub returns : goal.returns
returns c =
    clears_added c.args.disks.now c.args.areas.now c.requires c.args.cleared c.args.batches.now.items c.push_labels.new.batches.items
    c.push_batch.new.batches.items c.in_ok-push_labels.ensures
    (subst (λ (l : List Put). IsAdded l c.push_labels.new.batches.items c.push_batch.new.batches.items) c.in_ok-headers.ensures
    c.in_ok-push_batch.ensures)
