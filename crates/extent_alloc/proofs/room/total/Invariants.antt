use Rattle.std.proofs.Common.{◌≡◌, ◌+◌, drop}
use Rattle.extent_alloc.specs.Free as specs
use Rattle.extent_alloc.proofs.room.total.Given as goal

abbrev pub invariant-loop-run : goal.invariant-loop-run
invariant-loop-run l = l.total + specs.total (drop l.run-index l.runs) ≡ specs.total l.runs
