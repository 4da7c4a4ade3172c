-- What those so far have, and those that are left.
use Rattle.std.proofs.Common.{◌≡◌, ◌+◌, drop, sum_by}
use Rattle.extent_map.specs.declared.extent_run.ExtentRun.{ExtentRun}
use Rattle.lvm_report.proofs.runs.total.Given as goal

abbrev pub invariant-loop-run : goal.invariant-loop-run
invariant-loop-run l =
    l.total + sum_by (λ (run : ExtentRun). run.count) (drop l.run-index l.runs) ≡ sum_by (λ (run : ExtentRun). run.count) l.runs
