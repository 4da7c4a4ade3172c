use Rattle.std.proofs.Common.{◌≡◌, ◌++◌, take}
use Rattle.extent_alloc.specs.Free.{runs_on}
use Rattle.extent_alloc.proofs.free.add_runs.Given as goal

abbrev pub invariant-loop-run : goal.invariant-loop-run
invariant-loop-run l = l.runs.items ≡ l.fn.runs.items ++ runs_on l.pv (take l.run-index l.free)
