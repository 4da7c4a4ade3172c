use Rattle.std.proofs.Common.{◌≡◌, ◌-◌, find, length}
use Rattle.std.specs.List.{range_with_len}
use Rattle.extent_alloc.specs.Refusals.{first_barred, is_barred}
use Rattle.extent_alloc.proofs.usable.first_barred.Given as goal

abbrev pub invariant-loop-pv : goal.invariant-loop-pv
invariant-loop-pv l = first_barred l.group l.want ≡ find (is_barred l.group l.want) (range_with_len l.pv (length l.group.pvs - l.pv))
