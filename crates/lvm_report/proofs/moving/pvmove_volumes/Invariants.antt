-- Those so far, and those that are left.
use Rattle.std.proofs.Common.{◌≡◌, ◌++◌, drop, length, map}
use Rattle.std.specs.List.{range_with_len}
use Rattle.volume_rules.specs.Moving.{has_pvmove}
use Rattle.lvm_report.proofs.moving.pvmove_volumes.Given as goal

abbrev pub invariant-loop-number : goal.invariant-loop-number
invariant-loop-number l =
    l.moving.items ++ map (has_pvmove l.group) (drop l.number (range_with_len 0 (length l.group.lvs)))
    ≡ map (has_pvmove l.group) (range_with_len 0 (length l.group.lvs))
