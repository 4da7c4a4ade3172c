use Rattle.std.proofs.Common.{◌≡◌, ◌^◌, ◌-◌, min, sum_by, take}
use Rattle.disk_batch.specs.InTurn.{ops_of, sectors_of}
use Rattle.disk_batch.proofs.in_turn.needed_by.Given as goal

abbrev pub invariant-loop-batch : goal.invariant-loop-batch
invariant-loop-batch l =
    (l.ops ≡ min (sum_by ops_of (take l.batch-index l.batches)) (2 ^ 64 - 1))
    × (l.sectors ≡ min (sum_by sectors_of (take l.batch-index l.batches)) (2 ^ 64 - 1))
