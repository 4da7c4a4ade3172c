use Rattle.std.proofs.Common.{◌≡◌, ◌-◌, ◌++◌, length}
use Rattle.std.specs.List.{filter, range_with_len}
use Rattle.extent_alloc.specs.Usable.{is_usable, usable_pvs}
use Rattle.extent_alloc.proofs.usable.usable_pvs.Given as goal

abbrev pub invariant-loop-pv : goal.invariant-loop-pv
invariant-loop-pv l =
    l.pvs.items ++ filter (is_usable l.group l.want) (range_with_len l.pv (length l.group.pvs - l.pv)) ≡ usable_pvs l.group l.want
