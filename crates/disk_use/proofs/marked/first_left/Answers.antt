-- What the scan says of the marked disks.
use Rattle.std.proofs.Common.{sym}
use Rattle.disk_use.proofs.Scanning.{first_there, found_left, found_of, looks_scan, refused_left, refused_of}
use Rattle.disk_use.proofs.marked.first_left.Goals as goal

pub returns-in-Ok-clause-cause : goal.returns-in-Ok-clause-cause
returns-in-Ok-clause-cause g c =
    found_left (g.S.Shelf.state c.args.shelf.now) (g.S.Shelf.state c.scan.new.shelf) c.in-Ok.found c.args.marked.now c.left_of.result
    c.in-Ok.ensures.scan c.left_of.ensures

pub returns-in-Ok-clause-of : goal.returns-in-Ok-clause-of
returns-in-Ok-clause-of g c = found_of c.in-Ok.found c.args.marked.now c.left_of.result c.left_of.ensures

pub returns-in-Ok-clause-looks : goal.returns-in-Ok-clause-looks
returns-in-Ok-clause-looks g c = looks_scan (g.S.Shelf.state c.args.shelf.now) (g.S.Shelf.state c.scan.new.shelf) c.scan.ensures.reads
    c.scan.ensures.again

pub returns-in-Err-clause-cause : goal.returns-in-Err-clause-cause
returns-in-Err-clause-cause g c =
    refused_left (g.S.Shelf.state c.args.shelf.now) (g.S.Shelf.state c.scan.new.shelf) c.in-Err.stopped.why c.in-Err.stopped.unread
    c.args.marked.now c.in-Some.first.now c.left_of_refused.result
    c.in-Err.ensures.scan (first_there c.args.marked.now c.in-Some.first.now (sym c.in-Some.ensures.value)) c.left_of_refused.ensures

pub returns-in-Err-clause-of : goal.returns-in-Err-clause-of
returns-in-Err-clause-of g c =
    refused_of c.in-Err.stopped.why c.in-Err.stopped.unread c.args.marked.now c.in-Some.first.now c.left_of_refused.result
    (first_there c.args.marked.now c.in-Some.first.now (sym c.in-Some.ensures.value)) c.left_of_refused.ensures

pub returns-in-Err-clause-looks : goal.returns-in-Err-clause-looks
returns-in-Err-clause-looks g c = looks_scan (g.S.Shelf.state c.args.shelf.now) (g.S.Shelf.state c.scan.new.shelf) c.scan.ensures.reads
    c.scan.ensures.again
