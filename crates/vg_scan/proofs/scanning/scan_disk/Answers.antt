-- What was read of the disk is taken in, or that it is unread.
use Rattle.std.proofs.Common.{subst}
use Rattle.disk_contents.specs.Causes.{IsReadCause}
use Rattle.vg_scan.specs.Disks.{pv_read}
use Rattle.vg_scan.proofs.ScanEnds.{read_taken, unread_taken}
use Rattle.vg_scan.proofs.scanning.scan_disk.Goals as goal

pub returns-in-Ok-clause-disk : goal.returns-in-Ok-clause-disk
returns-in-Ok-clause-disk g c =
    read_taken c.args.number (g.S.Shelf.state c.args.shelf.now) (g.S.Shelf.state c.read_disk.new.shelf) c.args.collected.now.disks
    c.read_disk.new.collected.disks c.take_in.new.collected.disks c.sectors-sectors.result c.in-Ok.contents
    (pv_read c.read_disk.new.collected.copies c.in-Ok.read) c.take_in.result c.read_disk.ensures.disks c.sectors-sectors.ensures
    c.in-Ok.ensures.read c.in-Ok.ensures.stands c.in-Ok.ensures.shape c.in-Ok.ensures.cause c.take_in.ensures

pub returns-in-Err-ReadFailed-clause-disk : goal.returns-in-Err-ReadFailed-clause-disk
returns-in-Err-ReadFailed-clause-disk g c =
    let s0 = g.S.Shelf.state c.args.shelf.now in
    let s1 = g.S.Shelf.state c.read_disk.new.shelf in
    unread_taken c.args.number s0 s1 c.args.collected.now.disks c.read_disk.new.collected.disks c.take_in-in-Err-ReadFailed.new.collected.disks
    c.sectors-sectors.result c.in-Err-ReadFailed.field-0-0 c.take_in-in-Err-ReadFailed.result
    c.read_disk.ensures.disks c.sectors-sectors.ensures
    (subst (IsReadCause c.args.number s0 s1) c.in-Err-ReadFailed.field-0-is c.in-Err-ReadFailed.ensures.cause)
    c.take_in-in-Err-ReadFailed.ensures
