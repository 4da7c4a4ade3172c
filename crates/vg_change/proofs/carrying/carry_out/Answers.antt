-- The change of a line that no row refuses can be made, and its batches can be carried out.
use Rattle.std.proofs.Common.{ℕ, List, map, refl, sym, ap, subst, ◌∙◌}
use Rattle.std.proofs.lemmas.Result.{err_from_is_err_and}
use Rattle.std.specs.Prelude.{All}
use Rattle.disk_model.specs.State.{State}
use Rattle.disk_batch.specs.Batches.{writes_of}
use Rattle.disk_batch.specs.InTurn.{CanRun}
use Rattle.change_batches.proofs.HeldInDisks.{sizes_kept}
use Rattle.change_batches.proofs.ZeroBatch.{planned_few, planned_lie}
use Rattle.change_batches.specs.Sound.{sizes_of}
use Rattle.vg_change.proofs.Carried.{cleared, failed, lies, made, unplanned, wanting}
use Rattle.vg_change.proofs.carrying.carry_out.Goals as goal

pub zeros_of-requires : goal.zeros_of-requires
zeros_of-requires g c = planned_few c.args.state.now.disks c.requires.state.few c.in_ok-change.change.zero c.in_ok-change.ensures.zeros

pub batches_of-requires : goal.batches_of-requires
batches_of-requires g c =
    made c.args.state.now c.args.line.now c.args.now c.requires.state c.requires.planned c.in_ok-change.change c.in_ok-change.ensures.plans

pub write_both-requires-clause-zeros_can_run : goal.write_both-requires-clause-zeros_can_run
write_both-requires-clause-zeros_can_run g c =
    subst (λ (sizes : List ℕ). All (CanRun sizes) c.in_ok-zeros.zeros.items)
    (sizes_kept _ _ _ _ (sizes_of c.args.state.now.disks) c.in_ok-reserve_lists.ensures.room c.requires.disks)
    (c.in_ok-zeros.ensures.can_run (sizes_of c.args.state.now.disks)
    (planned_lie c.args.state.now.disks c.requires.state.few c.in_ok-change.change.zero c.in_ok-change.ensures.zeros))

pub write_both-requires-clause-can_run : goal.write_both-requires-clause-can_run
write_both-requires-clause-can_run g c =
    subst (λ (sizes : List ℕ). All (CanRun sizes) c.in_ok-batches.batches.items)
    (sizes_kept _ _ _ _ (sizes_of c.args.state.now.disks) c.in_ok-reserve_lists.ensures.room c.requires.disks)
    (c.in_ok-batches.ensures.can_run (sizes_of c.args.state.now.disks)
    (lies c.args.state.now c.args.line.now c.args.now c.requires.state c.requires.planned c.in_ok-change.change
    c.in_ok-change.ensures.plans))

pub clear-requires-clause-can_run : goal.clear-requires-clause-can_run
clear-requires-clause-can_run g c =
    subst (λ (sizes : List ℕ). All (CanRun sizes) c.in_ok-clears.clears.items)
    (sizes_kept _ _ _ _ (sizes_of c.args.state.now.disks) c.in_ok-reserve_lists.ensures.room c.requires.disks
    ∙ sym c.write_both.ensures.again.sizes)
    c.in_ok-clears.ensures.can_run

pub returns-in_err-change-clause-carried : goal.returns-in_err-change-clause-carried
returns-in_err-change-clause-carried g c =
    let p = err_from_is_err_and c.from_residual.result c.from_residual.ensures.1 in
    rw (p.1, p.2) (unplanned c.args.state.now c.args.line.now c.args.now c.in_err-change.field-0.0 c.in_err-change.ensures.plans
    (g.S.Shelf.state c.args.shelf.now))

pub returns-in_err-zeros-clause-carried : goal.returns-in_err-zeros-clause-carried
returns-in_err-zeros-clause-carried g c =
    let p = err_from_is_err_and c.from_residual-in_err-zeros.result c.from_residual-in_err-zeros.ensures.1 in
    let s0 = g.S.Shelf.state c.args.shelf.now in
    rw (p.1, p.2) (wanting c.args.state.now c.args.line.now c.args.now s0 s0 refl (λ pv. refl))

pub returns-in_err-batches-clause-carried : goal.returns-in_err-batches-clause-carried
returns-in_err-batches-clause-carried g c =
    let p = err_from_is_err_and c.from_residual-in_err-batches.result c.from_residual-in_err-batches.ensures.1 in
    let s0 = g.S.Shelf.state c.args.shelf.now in
    rw (p.1, p.2) (wanting c.args.state.now c.args.line.now c.args.now s0 s0 refl (λ pv. refl))

pub returns-in_err-clears-clause-carried : goal.returns-in_err-clears-clause-carried
returns-in_err-clears-clause-carried g c =
    let p = err_from_is_err_and c.from_residual-in_err-clears.result c.from_residual-in_err-clears.ensures.1 in
    let s0 = g.S.Shelf.state c.args.shelf.now in
    rw (p.1, p.2) (wanting c.args.state.now c.args.line.now c.args.now s0 s0 refl (λ pv. refl))

pub returns-in_err-reserve_lists-clause-carried : goal.returns-in_err-reserve_lists-clause-carried
returns-in_err-reserve_lists-clause-carried g c =
    let p = err_from_is_err_and c.from_residual-in_err-reserve_lists.result c.from_residual-in_err-reserve_lists.ensures.1 in
    let same = c.in_err-reserve_lists.ensures.err in
    rw (p.1, p.2)
    (wanting c.args.state.now c.args.line.now c.args.now (g.S.Shelf.state c.args.shelf.now) (g.S.Shelf.state c.reserve_lists.new.shelf)
    (ap (λ (s : State). s.told) same)
    (λ pv. ap (λ (s : State). s.faults pv) same))

pub returns-in-Ok-clause-carried : goal.returns-in-Ok-clause-carried
returns-in-Ok-clause-carried g c =
    cleared c.args.state.now c.args.line.now c.args.now c.requires.state c.requires.planned c.in_ok-change.change
    c.in_ok-change.ensures.plans c.in_ok-batches.ensures.read_again c.in_ok-clears.ensures.fields (g.S.Shelf.state c.args.shelf.now)
    (g.S.Shelf.state c.reserve_lists.new.shelf) (g.S.Shelf.state c.write_both.new.shelf) (g.S.Shelf.state c.clear.new.shelf) _ _
    c.in_ok-reserve_lists.ensures.room (map writes_of c.in_ok-zeros.zeros.items) c.in_ok-zeros.ensures.writes
    (map writes_of c.in_ok-batches.batches.items) c.in_ok-batches.ensures.writes (map writes_of c.in_ok-clears.clears.items)
    c.in_ok-clears.ensures.writes
    (g.met.S.Shelf.lawful c.write_both.new.shelf) c.in-Ok.ensures.again c.clear.ensures.again c.in-Ok.ensures.fault c.in-Ok.ensures.told
    c.is_some.result c.is_some.ensures c.clear.result c.clear.ensures.cause c.clear.ensures.told

pub returns-clause-carried : goal.returns-clause-carried
returns-clause-carried g c =
    failed c.args.state.now c.args.line.now c.args.now c.requires.state c.requires.planned c.in_ok-change.change
    c.in_ok-change.ensures.plans c.in_ok-batches.ensures.read_again c.in_ok-clears.ensures.fields (g.S.Shelf.state c.args.shelf.now)
    (g.S.Shelf.state c.reserve_lists.new.shelf) (g.S.Shelf.state c.write_both.new.shelf) (g.S.Shelf.state c.write_both.new.shelf) _ _
    c.in_ok-reserve_lists.ensures.room (map writes_of c.in_ok-zeros.zeros.items) c.in_ok-zeros.ensures.writes
    (map writes_of c.in_ok-batches.batches.items) c.in_ok-batches.ensures.writes (map writes_of c.in_ok-clears.clears.items)
    c.in_ok-clears.ensures.writes c.in-Err.pv
    c.in-Err.ensures.fault c.in-Err.ensures.told
