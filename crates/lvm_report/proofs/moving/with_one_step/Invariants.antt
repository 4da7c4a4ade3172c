-- Those so far, and those that are left.
use Rattle.std.proofs.Common.{◌≡◌, ◌++◌, drop, length, map}
use Rattle.std.specs.List.{range_with_len}
use Rattle.lvm_report.specs.Marks.{next_mark}
use Rattle.lvm_report.proofs.moving.with_one_step.Given as goal

abbrev pub invariant-loop-number : goal.invariant-loop-number
invariant-loop-number l =
    l.moving.items ++ map (next_mark l.group l.below) (drop l.number (range_with_len 0 (length l.group.lvs)))
    ≡ map (next_mark l.group l.below) (range_with_len 0 (length l.group.lvs))
