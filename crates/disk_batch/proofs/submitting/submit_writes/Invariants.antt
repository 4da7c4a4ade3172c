use Rattle.std.proofs.Common.{◌≡◌, ◌≤◌, ◌+◌, List, ◌++◌, length, vec_capacity, map, reverse, sum_by}
use Rattle.disk_model.specs.Steps.{Work}
use Rattle.disk_batch.specs.Submits.{SubmitsWorks}
use Rattle.disk_batch.specs.Writes.{LieIn, write_work, span_count}
use Rattle.disk_batch.proofs.submitting.submit_writes.Given as goal

abbrev pub invariant-loop-rest : goal.invariant-loop-rest
invariant-loop-rest g l = record {
  submits : (works : List Work) × SubmitsWorks (g.S.Shelf.state l.fn.shelf) works l.tags.items (g.S.Shelf.state l.shelf)
      × (works ++ map write_work (reverse l.rest.items) ≡ map write_work l.fn.list.items);
  lie : LieIn (g.S.Shelf.state l.shelf).sizes l.rest.items;
  ops : length l.rest.items ≤ (g.S.Shelf.state l.shelf).spare_ops;
  sectors : sum_by span_count l.rest.items ≤ (g.S.Shelf.state l.shelf).spare_sectors;
  room : length l.tags.items + length l.rest.items ≤ vec_capacity l.tags;
  capacity : vec_capacity l.tags ≡ vec_capacity l.fn.tags;
}

abbrev pub decreases-loop-rest : goal.decreases-loop-rest
decreases-loop-rest g l = length l.rest.items
