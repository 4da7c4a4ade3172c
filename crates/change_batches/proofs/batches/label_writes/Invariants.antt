use Rattle.std.proofs.Common.{◌≡◌, ◌++◌, drop, map, take}
use Rattle.std.specs.Prelude.{All}
use Rattle.change_batches.specs.Batches.{label_put}
use Rattle.change_batches.specs.Sound.{FitsFields}
use Rattle.change_batches.proofs.batches.label_writes.Given as goal

abbrev pub invariant-loop-label : goal.invariant-loop-label
invariant-loop-label l = record {
  writes : l.list.items ++ map label_put (drop l.label-index l.labels) ≡ map label_put l.labels;
  fits : All FitsFields (take l.label-index l.labels);
}
