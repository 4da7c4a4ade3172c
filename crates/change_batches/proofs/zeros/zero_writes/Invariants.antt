use Rattle.std.proofs.Common.{◌≡◌, ◌++◌, drop, map}
use Rattle.change_batches.specs.Batches.{zero_put}
use Rattle.change_batches.proofs.zeros.zero_writes.Given as goal

abbrev pub invariant-loop-span : goal.invariant-loop-span
invariant-loop-span l = l.list.items ++ map zero_put (drop l.span-index l.spans) ≡ map zero_put l.spans
