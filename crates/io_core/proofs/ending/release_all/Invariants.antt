use Rattle.std.proofs.Common.{length}
use Rattle.flush_waits.specs.Waits.{disk_waits}
use Rattle.world_acts.specs.Acts.{SettlesAndGoes, flushed_acts, world}
use Rattle.io_core.specs.Rest.{AreReleasedBut}
use Rattle.io_core.proofs.Released.{MayRelease}
use Rattle.io_core.proofs.ending.release_all.Given as goal

abbrev pub invariant-loop-line : goal.invariant-loop-line
invariant-loop-line g l = record {
  may : MayRelease (world (g.S.Shelf.state l.shelf) l.core) l.pv;
  ends : SettlesAndGoes (flushed_acts l.pv l.well) (world (g.S.Shelf.state l.shelf) l.fn.core) (world (g.S.Shelf.state l.shelf) l.core);
  released : AreReleasedBut l.pv l.fn.core → AreReleasedBut l.pv l.core;
}

abbrev pub decreases-loop-line : goal.decreases-loop-line
decreases-loop-line g l = length (disk_waits l.core.waits l.pv).served
