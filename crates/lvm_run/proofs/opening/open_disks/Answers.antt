use Rattle.std.proofs.Common.{false, is_ok}
use Rattle.lvm_run.proofs.FlushedAndScanned.{opens_all, opens_failed, refused_after, taken_after}
use Rattle.lvm_run.proofs.opening.open_disks.Goals as goal

pub returns-in-Err-flush_all-clause-told : goal.returns-in-Err-flush_all-clause-told
returns-in-Err-flush_all-clause-told g c =
    opens_failed (g.S.Shelf.state c.args.shelf.now) (g.S.Shelf.state c.reserve.new.self) (g.S.Shelf.state c.flush_all.new.shelf) _ 0
    c.in_default.ensures.ok c.in-Err-flush_all.ensures.told

pub returns-in-Ok-clause-cause : goal.returns-in-Ok-clause-cause
returns-in-Ok-clause-cause g c =
    let f = c.in_default-flush_all.ensures in
    taken_after (g.S.Shelf.state c.args.shelf.now) (g.S.Shelf.state c.reserve.new.self) (g.S.Shelf.state c.flush_all.new.shelf) _ 0
    c.in_default.ensures.ok f.again f.told (g.S.Shelf.state c.scan.new.shelf) f.fault
    c.in-Ok.found c.in-Ok.ensures.scan c.taken.result c.taken.ensures

pub returns-in-Ok-clause-told : goal.returns-in-Ok-clause-told
returns-in-Ok-clause-told g c =
    let f = c.in_default-flush_all.ensures in
    opens_all (g.S.Shelf.state c.args.shelf.now) (g.S.Shelf.state c.reserve.new.self) (g.S.Shelf.state c.flush_all.new.shelf) _ 0
    c.in_default.ensures.ok f.again f.told (g.S.Shelf.state c.scan.new.shelf)
    (is_ok c.taken.result) c.in-Ok.ensures.reads

pub returns-in-Err-scan-clause-cause : goal.returns-in-Err-scan-clause-cause
returns-in-Err-scan-clause-cause g c =
    let f = c.in_default-flush_all.ensures in
    refused_after (g.S.Shelf.state c.args.shelf.now) (g.S.Shelf.state c.reserve.new.self) (g.S.Shelf.state c.flush_all.new.shelf) _ 0
    c.in_default.ensures.ok f.again f.told (g.S.Shelf.state c.scan.new.shelf) f.fault
    c.in-Err-scan.stopped.why c.in-Err-scan.stopped.unread c.scan_ending.result c.in-Err-scan.ensures.scan c.scan_ending.ensures

pub returns-in-Err-scan-clause-told : goal.returns-in-Err-scan-clause-told
returns-in-Err-scan-clause-told g c =
    let f = c.in_default-flush_all.ensures in
    opens_all (g.S.Shelf.state c.args.shelf.now) (g.S.Shelf.state c.reserve.new.self) (g.S.Shelf.state c.flush_all.new.shelf) _ 0
    c.in_default.ensures.ok f.again f.told (g.S.Shelf.state c.scan.new.shelf)
    false c.in-Err-scan.ensures.reads
