-- Some have entered, and the others may.
use Rattle.std.proofs.Common.{length, reverse}
use Rattle.world_acts.specs.Acts.{world}
use Rattle.io_core.proofs.PieceEnters.{PiecesEnter}
use Rattle.io_core.proofs.beginning.enter_pieces.Given as goal

abbrev pub invariant-loop-new : goal.invariant-loop-new
invariant-loop-new g l =
    PiecesEnter l.line l.first (world (g.S.Shelf.state l.fn.shelf) l.fn.core) (world (g.S.Shelf.state l.shelf) l.core)
    l.fn.pieces.items (reverse l.rest.items)

abbrev pub decreases-loop-new : goal.decreases-loop-new
decreases-loop-new g l = length l.rest.items
