-- The lines so far, and those that are left.
use Rattle.std.proofs.Common.{◌≡◌, ◌++◌}
use Rattle.std.specs.List.{flat_map}
use Rattle.lvm_report.specs.Reports.{lv_line, lv_lines}
use Rattle.lvm_report.specs.VolumeLine.{visible_from}
use Rattle.lvm_report.proofs.volume_lines.put_volumes.Given as goal

abbrev pub invariant-loop-number : goal.invariant-loop-number
invariant-loop-number l = l.text.items ++ flat_map (lv_line l.group) (visible_from l.group l.number) ≡ l.fn.text.items ++ lv_lines l.group
