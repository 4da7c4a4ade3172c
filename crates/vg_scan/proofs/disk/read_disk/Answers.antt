-- What was found is read first, and then its texts.
use Rattle.std.proofs.Common.{refl, slice_index_or}
use Rattle.std.proofs.lemmas.Result.{err_from_is_err_and}
use Rattle.vg_scan.specs.Disks.{pv_read}
use Rattle.vg_scan.proofs.Continued.{continues_same}
use Rattle.vg_scan.proofs.DiskReads.{disk_reads, disk_until, disk_well, headers_until}
use Rattle.vg_scan.proofs.disk.read_disk.Goals as goal

pub returns-in_err-contents-clause-reads : goal.returns-in_err-contents-clause-reads
returns-in_err-contents-clause-reads g c =
    let before = g.S.Shelf.state c.args.shelf.now in
    (headers_until c.args.number (slice_index_or before.sizes c.args.number 0) before (g.S.Shelf.state c.find_pv.new.shelf)
    c.in_err-contents.field-0.0 c.in_err-contents.ensures.found).0

pub returns-in_err-contents-clause-again : goal.returns-in_err-contents-clause-again
returns-in_err-contents-clause-again g c =
    let before = g.S.Shelf.state c.args.shelf.now in
    (headers_until c.args.number (slice_index_or before.sizes c.args.number 0) before (g.S.Shelf.state c.find_pv.new.shelf)
    c.in_err-contents.field-0.0 c.in_err-contents.ensures.found).1

pub returns-in_err-contents-clause-cause : goal.returns-in_err-contents-clause-cause
returns-in_err-contents-clause-cause g c =
    let before = g.S.Shelf.state c.args.shelf.now in
    let p = err_from_is_err_and c.from_residual.result c.from_residual.ensures.1 in
    rw (p.1, p.2) (headers_until c.args.number (slice_index_or before.sizes c.args.number 0) before (g.S.Shelf.state c.find_pv.new.shelf)
    c.in_err-contents.field-0.0 c.in_err-contents.ensures.found).2

pub returns-in_err-contents-clause-continues : goal.returns-in_err-contents-clause-continues
returns-in_err-contents-clause-continues g c = continues_same c.args.collected.now.copies c.args.collected.now.copies refl

pub returns-in_err-read-clause-reads : goal.returns-in_err-read-clause-reads
returns-in_err-read-clause-reads g c =
    let before = g.S.Shelf.state c.args.shelf.now in
    let there = g.S.Shelf.state c.find_pv.new.shelf in
    let after = g.S.Shelf.state c.read_found.new.shelf in
    let found = c.in_ok-contents.contents in
    (disk_until c.args.number (slice_index_or before.sizes c.args.number 0) found before there after c.in_ok-contents.ensures.stands
    c.in_ok-contents.ensures.found.0 c.in_ok-contents.ensures.found.1 c.in_err-read.field-0.0 c.in_err-read.ensures.reads).0

pub returns-in_err-read-clause-again : goal.returns-in_err-read-clause-again
returns-in_err-read-clause-again g c =
    let before = g.S.Shelf.state c.args.shelf.now in
    let there = g.S.Shelf.state c.find_pv.new.shelf in
    let after = g.S.Shelf.state c.read_found.new.shelf in
    let found = c.in_ok-contents.contents in
    (disk_until c.args.number (slice_index_or before.sizes c.args.number 0) found before there after c.in_ok-contents.ensures.stands
    c.in_ok-contents.ensures.found.0 c.in_ok-contents.ensures.found.1 c.in_err-read.field-0.0 c.in_err-read.ensures.reads).1

pub returns-in_err-read-clause-cause : goal.returns-in_err-read-clause-cause
returns-in_err-read-clause-cause g c =
    let before = g.S.Shelf.state c.args.shelf.now in
    let there = g.S.Shelf.state c.find_pv.new.shelf in
    let after = g.S.Shelf.state c.read_found.new.shelf in
    let found = c.in_ok-contents.contents in
    let p = err_from_is_err_and c.from_residual-in_err-read.result c.from_residual-in_err-read.ensures.1 in
    rw (p.1, p.2) (disk_until c.args.number (slice_index_or before.sizes c.args.number 0) found before there after c.in_ok-contents.ensures.stands
    c.in_ok-contents.ensures.found.0 c.in_ok-contents.ensures.found.1 c.in_err-read.field-0.0 c.in_err-read.ensures.reads).2

pub returns-clause-read : goal.returns-clause-read
returns-clause-read g c =
    let before = g.S.Shelf.state c.args.shelf.now in
    let there = g.S.Shelf.state c.find_pv.new.shelf in
    let after = g.S.Shelf.state c.read_found.new.shelf in
    let found = c.in_ok-contents.contents in
    disk_reads c.args.number (slice_index_or before.sizes c.args.number 0) found before there after c.in_ok-contents.ensures.stands
    c.in_ok-contents.ensures.found.0 c.in_ok-contents.ensures.found.1 (pv_read c.read_found.new.collected.copies c.in_ok-read.read)
    c.in_ok-read.ensures.read

pub returns-clause-reads : goal.returns-clause-reads
returns-clause-reads g c =
    let before = g.S.Shelf.state c.args.shelf.now in
    let there = g.S.Shelf.state c.find_pv.new.shelf in
    let after = g.S.Shelf.state c.read_found.new.shelf in
    let found = c.in_ok-contents.contents in
    (disk_well c.args.number (slice_index_or before.sizes c.args.number 0) found before there after c.in_ok-contents.ensures.stands
    c.in_ok-contents.ensures.found.0 c.in_ok-contents.ensures.found.1 c.in_ok-read.ensures.reads).0

pub returns-clause-again : goal.returns-clause-again
returns-clause-again g c =
    let before = g.S.Shelf.state c.args.shelf.now in
    let there = g.S.Shelf.state c.find_pv.new.shelf in
    let after = g.S.Shelf.state c.read_found.new.shelf in
    let found = c.in_ok-contents.contents in
    (disk_well c.args.number (slice_index_or before.sizes c.args.number 0) found before there after c.in_ok-contents.ensures.stands
    c.in_ok-contents.ensures.found.0 c.in_ok-contents.ensures.found.1 c.in_ok-read.ensures.reads).1

pub returns-clause-cause : goal.returns-clause-cause
returns-clause-cause g c =
    let before = g.S.Shelf.state c.args.shelf.now in
    let there = g.S.Shelf.state c.find_pv.new.shelf in
    let after = g.S.Shelf.state c.read_found.new.shelf in
    let found = c.in_ok-contents.contents in
    (disk_well c.args.number (slice_index_or before.sizes c.args.number 0) found before there after c.in_ok-contents.ensures.stands
    c.in_ok-contents.ensures.found.0 c.in_ok-contents.ensures.found.1 c.in_ok-read.ensures.reads).2
