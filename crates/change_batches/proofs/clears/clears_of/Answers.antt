-- The batches are added to none.
use Rattle.std.proofs.Common.{List, sym, subst}
use Rattle.std.proofs.lemmas.List.Elements.{All-nil}
use Rattle.disk_batch.specs.InTurn.{CanRun}
use Rattle.vg_found.specs.declared.disk.Disk.{Disk}
use Rattle.change_batches.specs.Building.{AreScanned}
use Rattle.change_batches.specs.Sound.{sizes_of}
use Rattle.change_batches.proofs.ClearedAreas.{state_scanned}
use Rattle.change_batches.proofs.ClearsAdded.{from_none}
use Rattle.change_batches.proofs.clears.clears_of.Goals as goal

pub push_clears-requires : goal.push_clears-requires
push_clears-requires c =
    subst (λ (d : List Disk). AreScanned d c.as_slice-2.result.now) (sym c.as_slice.ensures)
    (subst (AreScanned c.args.state.now.disks) (sym c.as_slice-2.ensures) (state_scanned c.args.state.now c.requires))

pub returns-clause-writes : goal.returns-clause-writes
returns-clause-writes c =
    (from_none c.args.change.now.cleared c.args.state.now.disks c.as_slice.result.now c.args.state.now.areas c.as_slice-2.result.now
    c.new-batches.result.items c.push_clears.new.batches.items c.as_slice.ensures c.as_slice-2.ensures
    c.new-batches.ensures.items c.in_ok-push_clears.ensures).writes

pub returns-clause-can_run : goal.returns-clause-can_run
returns-clause-can_run c =
    (from_none c.args.change.now.cleared c.args.state.now.disks c.as_slice.result.now c.args.state.now.areas c.as_slice-2.result.now
    c.new-batches.result.items c.push_clears.new.batches.items c.as_slice.ensures c.as_slice-2.ensures
    c.new-batches.ensures.items c.in_ok-push_clears.ensures).run (All-nil (CanRun (sizes_of c.args.state.now.disks)))

pub returns-clause-fields : goal.returns-clause-fields
returns-clause-fields c =
    (from_none c.args.change.now.cleared c.args.state.now.disks c.as_slice.result.now c.args.state.now.areas c.as_slice-2.result.now
    c.new-batches.result.items c.push_clears.new.batches.items c.as_slice.ensures c.as_slice-2.ensures
    c.new-batches.ensures.items c.in_ok-push_clears.ensures).fields
