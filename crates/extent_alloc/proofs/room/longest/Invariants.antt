use Rattle.std.proofs.Common.{◌≡◌, drop, max}
use Rattle.extent_alloc.specs.Free as specs
use Rattle.extent_alloc.proofs.room.longest.Given as goal

abbrev pub invariant-loop-run : goal.invariant-loop-run
invariant-loop-run l = max l.longest (specs.longest (drop l.run-index l.runs)) ≡ specs.longest l.runs
