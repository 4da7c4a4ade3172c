use Rattle.std.proofs.Common.{◌≡◌, ◌++◌, drop, filter, length}
use Rattle.std.specs.Prelude.{nat_lt}
use Rattle.vg_plans.specs.Vgcfgrestore.{disks_held}
use Rattle.vg_plans.proofs.vgcfgrestore.disks_held.Given as goal

abbrev pub invariant-loop-disk : goal.invariant-loop-disk
invariant-loop-disk l =
    l.held.items ++ filter (λ disk. nat_lt disk (length l.disks)) (drop l.disk-index l.disk-items) ≡ disks_held l.said l.disks
