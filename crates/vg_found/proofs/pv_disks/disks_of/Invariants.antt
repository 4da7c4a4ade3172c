use Rattle.std.proofs.Common.{◌≡◌, ◌++◌, ℕ, List, drop, map}
use Rattle.meta_model.specs.declared.pv.Pv.{Pv}
use Rattle.vg_found.specs.Disks.{disk_with, disks_of}
use Rattle.vg_found.proofs.pv_disks.disks_of.Given as goal

abbrev pub invariant-loop-number : goal.invariant-loop-number
invariant-loop-number l =
    l.numbers.items ++ map (λ (pv : List ℕ × Pv). disk_with l.disks pv.1.id) (drop l.number l.group.pvs) ≡ disks_of l.group l.disks
