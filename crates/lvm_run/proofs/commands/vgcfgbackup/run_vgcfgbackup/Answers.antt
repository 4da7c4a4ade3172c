use Rattle.lvm_run.proofs.BackingUp.{backup_ends, backup_meets}
use Rattle.lvm_run.proofs.commands.vgcfgbackup.run_vgcfgbackup.Goals as goal

pub returns-in-Ok : goal.returns-in-Ok
returns-in-Ok g c = λ id.
    let e = c.in-Ok.ensures in
    backup_meets c.args.names.now id c.args.vg c.args.now (g.S.Shelf.state c.args.shelf.now) (g.S.Shelf.state c.scan.new.shelf) e.again
    e.reads c.in-Ok.found e.scan c.back_up_found.result c.back_up_found.ensures

pub returns-in-Err : goal.returns-in-Err
returns-in-Err g c = λ id.
    let e = c.in-Err.ensures in
    backup_ends c.args.names.now id c.args.vg c.args.now (g.S.Shelf.state c.args.shelf.now) (g.S.Shelf.state c.scan.new.shelf) e.again
    e.reads c.in-Err.stopped.why c.in-Err.stopped.unread c.scan_ending.result e.scan c.scan_ending.ensures
