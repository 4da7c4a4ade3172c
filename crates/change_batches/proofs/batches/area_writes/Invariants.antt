use Rattle.std.proofs.Common.{◌≡◌, ◌++◌, drop}
use Rattle.std.specs.Prelude.{flat_map}
use Rattle.change_batches.specs.Batches.{area_puts}
use Rattle.change_batches.proofs.batches.area_writes.Given as goal

abbrev pub invariant-loop-label : goal.invariant-loop-label
invariant-loop-label l = l.list.items ++ flat_map area_puts (drop l.label-index l.labels) ≡ flat_map area_puts l.labels
