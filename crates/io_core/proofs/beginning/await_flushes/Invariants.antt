-- So many of the disks have been waited on.
use Rattle.std.proofs.Common.{length}
use Rattle.world_acts.specs.Acts.{world}
use Rattle.io_core.proofs.LineWaits.{Waited}
use Rattle.io_core.proofs.beginning.await_flushes.Given as goal

abbrev pub invariant-loop-ticket : goal.invariant-loop-ticket
invariant-loop-ticket g l =
    Waited l.line (world (g.S.Shelf.state l.shelf) l.fn.core) (world (g.S.Shelf.state l.shelf) l.core) l.pv (length l.rest.items)
    (length l.fn.tickets.items)

abbrev pub decreases-loop-ticket : goal.decreases-loop-ticket
decreases-loop-ticket g l = length l.rest.items
