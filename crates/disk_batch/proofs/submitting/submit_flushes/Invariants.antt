use Rattle.std.proofs.Common.{◌≡◌, ◌≤◌, ◌+◌, length, vec_capacity, map, take}
use Rattle.disk_model.specs.Steps.{Flushing}
use Rattle.disk_batch.specs.Submits.{SubmitsWorks}
use Rattle.disk_batch.proofs.submitting.submit_flushes.Given as goal

abbrev pub invariant-loop-pv : goal.invariant-loop-pv
invariant-loop-pv g l = record {
  submits : SubmitsWorks (g.S.Shelf.state l.fn.shelf) (map Flushing (take l.pv-index l.disks)) l.tags.items (g.S.Shelf.state l.shelf);
  spare : length l.disks ≤ (g.S.Shelf.state l.shelf).spare_ops + l.pv-index;
  sizes : (g.S.Shelf.state l.shelf).sizes ≡ (g.S.Shelf.state l.fn.shelf).sizes;
  len : length l.tags.items ≡ l.pv-index;
  capacity : vec_capacity l.tags ≡ vec_capacity l.fn.tags;
}
