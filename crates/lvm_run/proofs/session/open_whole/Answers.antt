use Rattle.std.proofs.Common.{false, true, refl}
use Rattle.disk_model.proofs.IdleAgain.{again_both}
use Rattle.lvm_run.specs.Sessions.{InUse, Unopened}
use Rattle.lvm_run.proofs.LeftInUse.{all_free, err_so, left_free_all, left_opened, ok_so}
use Rattle.lvm_run.proofs.SessionCauses.{opened_then}
use Rattle.lvm_run.proofs.session.open_whole.Goals as goal

pub returns-in-Err-clause-ready : goal.returns-in-Err-clause-ready
returns-in-Err-clause-ready g c =
    let e = c.in-Err.ensures in
    Unopened (record { again = e.again; cause = e.cause; told = e.told })

pub returns-in-Err-clause-kept : goal.returns-in-Err-clause-kept
returns-in-Err-clause-kept g c = λ unforced.
    left_opened false (g.S.Shelf.state c.args.shelf.now) (g.S.Shelf.state c.open_disks.new.shelf) c.in-Err.ensures.told

pub returns-in-Some-clause-ready : goal.returns-in-Some-clause-ready
returns-in-Some-clause-ready g c =
    let e = c.in-Ok.ensures in
    InUse c.in-Some.ensures.0 (record {
      found = c.in-Ok.whole;
      opens = record { again = e.again; cause = e.cause; told = e.told };
      pv = c.in-Some.pv;
      unlisted = c.in-Some.ensures.1;
      ending_is = refl;
    })

pub returns-in-Some-clause-kept : goal.returns-in-Some-clause-kept
returns-in-Some-clause-kept g c = λ unforced.
    left_opened true (g.S.Shelf.state c.args.shelf.now) (g.S.Shelf.state c.open_disks.new.shelf) c.in-Ok.ensures.told

pub returns-clause-again : goal.returns-clause-again
returns-clause-again g c =
    again_both (g.S.Shelf.state c.args.shelf.now) (g.S.Shelf.state c.open_disks.new.shelf) (g.S.Shelf.state c.repair_whole.new.shelf)
    c.in-Ok.ensures.again c.repair_whole.ensures.again

pub returns-clause-ready : goal.returns-clause-ready
returns-clause-ready g c =
    let e = c.in-Ok.ensures in
    opened_then c.args.forced (g.S.Shelf.state c.args.shelf.now) (g.S.Shelf.state c.open_disks.new.shelf) c.in-Ok.whole
    (record { again = e.again; cause = e.cause; told = e.told }) (g.S.Shelf.state c.repair_whole.new.shelf) c.repair_whole.result
    c.repair_whole.ensures.repairs

pub returns-clause-free : goal.returns-clause-free
returns-clause-free g c = ok_so c.repair_whole.result
    (λ unforced. all_free (g.S.Shelf.state c.args.shelf.now) (g.S.Shelf.state c.open_disks.new.shelf) c.in-Ok.whole
    c.in-Ok.ensures.cause (c.in_default.ensures unforced))

pub returns-clause-kept : goal.returns-clause-kept
returns-clause-kept g c = err_so c.repair_whole.result
    (λ unforced. left_free_all (g.S.Shelf.state c.args.shelf.now) (g.S.Shelf.state c.repair_whole.new.shelf)
    (all_free (g.S.Shelf.state c.args.shelf.now) (g.S.Shelf.state c.open_disks.new.shelf) c.in-Ok.whole
    c.in-Ok.ensures.cause (c.in_default.ensures unforced)))
