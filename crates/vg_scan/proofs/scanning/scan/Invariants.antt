-- The disks so far were scanned.
use Rattle.disk_model.specs.Idle.{IsIdleAgain}
use Rattle.vg_scan.specs.Scanned.{AreScanned}
use Rattle.vg_scan.proofs.scanning.scan.Given as goal

abbrev pub invariant-loop-number : goal.invariant-loop-number
invariant-loop-number g l =
    AreScanned (g.S.Shelf.state l.initial.shelf) l.number l.disks.items l.unread l.collected.disks (g.S.Shelf.state l.shelf)
    × IsIdleAgain (g.S.Shelf.state l.initial.shelf) (g.S.Shelf.state l.shelf)
