use Rattle.std.proofs.Common.{◌≤◌, length, ◌+◌, true}
use Rattle.disk_model.specs.Faults.{HasSameFaults}
use Rattle.disk_model.specs.Idle.{IsIdleAgain}
use Rattle.disk_model.specs.Since.{BetweenRecords}
use Rattle.disk_batch.specs.Flushing.{FlushesAll}
use Rattle.disk_batch.proofs.flush_disks.flush_all.Given as goal

abbrev pub invariant-loop-pv : goal.invariant-loop-pv
invariant-loop-pv g l = record {
  told : BetweenRecords (FlushesAll l.pv true) (g.S.Shelf.state l.fn.shelf).told (g.S.Shelf.state l.shelf).told;
  again : IsIdleAgain (g.S.Shelf.state l.fn.shelf) (g.S.Shelf.state l.shelf);
  faults : HasSameFaults (g.S.Shelf.state l.fn.shelf) (g.S.Shelf.state l.shelf);
  ops : length (g.S.Shelf.state l.shelf).sizes ≤ (g.S.Shelf.state l.shelf).spare_ops + l.pv;
}
