-- The free extents of those so far, which are below 2^48 each.
use Rattle.std.proofs.Common.{◌≡◌, ◌≤◌, ◌+◌, ◌*◌, ◌^◌, drop, length, sum_by}
use Rattle.std.specs.List.{range_with_len}
use Rattle.extent_map.specs.FreeCount.{free_extents}
use Rattle.lvm_report.specs.Volumes.{free_of_group}
use Rattle.lvm_report.proofs.group_line.count_free.Given as goal

abbrev pub invariant-loop-number : goal.invariant-loop-number
invariant-loop-number l = record {
  counted : l.free + sum_by (free_extents l.group) (drop l.number (range_with_len 0 (length l.group.pvs))) ≡ free_of_group l.group;
  few : l.free ≤ l.number * 2 ^ 48;
}
