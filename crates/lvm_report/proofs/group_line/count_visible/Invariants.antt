-- As many as were visible so far, and no more than were looked at.
use Rattle.std.proofs.Common.{◌≡◌, ◌≤◌, ◌+◌, length}
use Rattle.lvm_report.specs.VolumeLine.{visible_from}
use Rattle.lvm_report.specs.Volumes.{visible_volumes}
use Rattle.lvm_report.proofs.group_line.count_visible.Given as goal

abbrev pub invariant-loop-number : goal.invariant-loop-number
invariant-loop-number l = record {
  counted : l.count + length (visible_from l.group l.number) ≡ length (visible_volumes l.group);
  few : l.count ≤ l.number;
}
