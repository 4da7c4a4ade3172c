use Rattle.std.proofs.Common.{◌≡◌, ◌≤◌, List, ◌++◌, length, map, reverse, sum_by, true, All}
use Rattle.disk_model.specs.Faults.{HasSameFaults}
use Rattle.disk_model.specs.Idle.{SpendsAtMost}
use Rattle.disk_batch.specs.Batches.{writes_of}
use Rattle.disk_batch.specs.InTurn.{CanRun, WritesInTurnTold, ops_of, sectors_of}
use Rattle.disk_batch.specs.declared.batch.Batch.{Batch}
use Rattle.disk_batch.proofs.in_turn.write_in_turn.Given as goal

abbrev pub invariant-loop-rest : goal.invariant-loop-rest
invariant-loop-rest g l = record {
  done : (first : List Batch) × (first ++ reverse l.rest.items ≡ l.fn.batches.items)
      × WritesInTurnTold (g.S.Shelf.state l.fn.shelf).told (map writes_of first) true (g.S.Shelf.state l.shelf).told
      × SpendsAtMost (g.S.Shelf.state l.fn.shelf) (sum_by ops_of first) (sum_by sectors_of first) (g.S.Shelf.state l.shelf);
  faults : HasSameFaults (g.S.Shelf.state l.fn.shelf) (g.S.Shelf.state l.shelf);
  can_run : All (CanRun (g.S.Shelf.state l.shelf).sizes) l.rest.items;
  ops : sum_by ops_of l.rest.items ≤ (g.S.Shelf.state l.shelf).spare_ops;
  sectors : sum_by sectors_of l.rest.items ≤ (g.S.Shelf.state l.shelf).spare_sectors;
}

abbrev pub decreases-loop-rest : goal.decreases-loop-rest
decreases-loop-rest g l = length l.rest.items
