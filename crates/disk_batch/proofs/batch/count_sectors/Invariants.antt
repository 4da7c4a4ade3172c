use Rattle.std.proofs.Common.{◌≡◌, ◌^◌, ◌-◌, min, sum_by, take}
use Rattle.disk_batch.specs.Writes.{span_count}
use Rattle.disk_batch.proofs.batch.count_sectors.Given as goal

abbrev pub invariant-loop-span : goal.invariant-loop-span
invariant-loop-span l = l.total ≡ min (sum_by span_count (take l.span-index l.writes)) (2 ^ 64 - 1)
