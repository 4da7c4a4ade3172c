use Rattle.std.proofs.Common.{◌≡◌, ◌++◌, drop, map}
use Rattle.group_plan.specs.Added.{pv_of}
use Rattle.group_plan.proofs.joined_group.pvs_of.Given as goal

abbrev pub invariant-loop-added : goal.invariant-loop-added
invariant-loop-added l = l.pvs.items ++ map (pv_of l.extent_size) (drop l.added-index l.all) ≡ map (pv_of l.extent_size) l.all
