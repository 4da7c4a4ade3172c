use Rattle.std.proofs.Common.{◌≡◌, ◌<◌, ℕ, false}
use Rattle.flush_waits.specs.Waits.{is_wanted}
use Rattle.world_acts.specs.Acts.{Reaches, follows, world}
use Rattle.io_core.specs.Rest.{IsSettled}
use Rattle.io_core.proofs.flushing.submit_flushes.Given as goal

abbrev pub invariant-loop-pv : goal.invariant-loop-pv
invariant-loop-pv g l = record {
  reaches : Reaches follows (world (g.S.Shelf.state l.fn.shelf) l.fn.core) (world (g.S.Shelf.state l.shelf) l.core);
  settled : IsSettled l.core;
  opens : l.core.opens ≡ l.fn.core.opens;
  flushed : (pv : ℕ) → pv < l.pv → is_wanted l.core.waits pv ≡ false;
}
