use Rattle.std.proofs.Common.{◌+◌, length, sum_by}
use Rattle.disk_batch.specs.Alone.{IsOn, IsWithin, lost_of, sectors_ahead, steps_to_come}
use Rattle.disk_batch.specs.Batches.{writes_of, disks_of}
use Rattle.disk_batch.specs.Faults.{FaultsAlone}
use Rattle.disk_batch.specs.Writes.{span_count}
use Rattle.disk_batch.proofs.Carrying.{CarriesTold}
use Rattle.disk_batch.proofs.Growing.{WorksOn}
use Rattle.disk_batch.proofs.alone.write_all.Given as goal

abbrev pub invariant-loop-done : goal.invariant-loop-done
invariant-loop-done g l = record {
  on : IsOn l.step (g.S.Shelf.state l.shelf);
  works : WorksOn (g.S.Shelf.state l.fn.shelf) (length (writes_of l.fn.batch) + length (disks_of l.fn.batch))
      (sum_by span_count (writes_of l.fn.batch)) (steps_to_come l.step) (sectors_ahead l.step) (g.S.Shelf.state l.shelf);
  within : IsWithin (g.S.Shelf.state l.shelf) l.step;
  faults : FaultsAlone (g.S.Shelf.state l.fn.shelf) (lost_of l.step) (g.S.Shelf.state l.shelf);
  carries : CarriesTold (writes_of l.fn.batch) (disks_of l.fn.batch) l.step (g.S.Shelf.state l.fn.shelf).told
      (g.S.Shelf.state l.shelf).told;
}

abbrev pub decreases-loop-done : goal.decreases-loop-done
decreases-loop-done g l = length (g.S.Shelf.state l.shelf).in_flight + steps_to_come l.step
