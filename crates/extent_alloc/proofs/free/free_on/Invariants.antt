use Rattle.std.proofs.Common.{◌≡◌, ◌++◌, drop}
use Rattle.std.specs.List.{flat_map}
use Rattle.extent_alloc.specs.AllRuns.{runs_at}
use Rattle.extent_alloc.proofs.free.free_on.Given as goal

abbrev pub invariant-loop-pv : goal.invariant-loop-pv
invariant-loop-pv l = l.runs.items ++ flat_map (runs_at l.all) (drop l.pv-index l.pvs) ≡ flat_map (runs_at l.all) l.pvs
