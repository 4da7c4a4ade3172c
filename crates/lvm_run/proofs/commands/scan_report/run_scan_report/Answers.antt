use Rattle.lvm_run.proofs.Reporting.{ending_meets, report_meets}
use Rattle.lvm_run.proofs.commands.scan_report.run_scan_report.Goals as goal

pub returns-in-Ok : goal.returns-in-Ok
returns-in-Ok g c = λ id now.
    let e = c.in-Ok.ensures in
    report_meets c.args.report c.args.names.now id now (g.S.Shelf.state c.args.shelf.now) (g.S.Shelf.state c.scan.new.shelf) e.again e.reads
    c.in-Ok.found c.reported.result e.scan c.reported.ensures

pub returns-in-Err : goal.returns-in-Err
returns-in-Err g c = λ id now.
    let e = c.in-Err.ensures in
    ending_meets c.args.report c.args.names.now id now (g.S.Shelf.state c.args.shelf.now) (g.S.Shelf.state c.scan.new.shelf) e.again e.reads
    c.in-Err.stopped.why c.in-Err.stopped.unread c.scan_ending.result e.scan c.scan_ending.ensures
