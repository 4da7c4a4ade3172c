use Rattle.std.proofs.Common.{◌<◌, All, take}
use Rattle.extent_alloc.specs.declared.part.PvRun.{PvRun}
use Rattle.extent_alloc.proofs.one_leg.first_long.Given as goal

abbrev pub invariant-loop-run : goal.invariant-loop-run
invariant-loop-run l = All (λ (run : PvRun). run.count < l.extents) (take l.run-index l.runs)
