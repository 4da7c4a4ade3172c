use Rattle.std.proofs.Common.{◌≡◌, length}
use Rattle.world_acts.specs.Acts.{Reaches, follows, world}
use Rattle.world_acts.specs.Orderly.{IsOrderly}
use Rattle.io_core.specs.Rest.{IsCalm, no_one}
use Rattle.io_core.proofs.starting.start_ready.Given as goal

abbrev pub invariant-loop-number : goal.invariant-loop-number
invariant-loop-number g l = record {
  orderly : IsOrderly (world (g.S.Shelf.state l.shelf) l.core);
  calm : IsCalm no_one no_one l.core;
  reaches : Reaches follows (world (g.S.Shelf.state l.fn.shelf) l.fn.core) (world (g.S.Shelf.state l.shelf) l.core);
  waits : l.core.waits ≡ l.fn.core.waits;
}

abbrev pub decreases-loop-number : goal.decreases-loop-number
decreases-loop-number g l = length l.core.pieces.claims.deferred
