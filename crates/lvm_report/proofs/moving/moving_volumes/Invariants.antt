-- As many steps down as were looked at.
use Rattle.std.proofs.Common.{◌≡◌}
use Rattle.lvm_report.specs.Volumes.{leading_down}
use Rattle.lvm_report.proofs.moving.moving_volumes.Given as goal

abbrev pub invariant-loop : goal.invariant-loop
invariant-loop l = l.moving.items ≡ leading_down l.group l.counter
