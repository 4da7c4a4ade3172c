-- Those that are taken off are repaired; the others are as they were.
use Rattle.std.proofs.Common.{◌≡◌, ◌++◌, List, length, reverse}
use Rattle.vg_found.specs.declared.disk.Disk.{Disk}
use Rattle.vg_repair.specs.Putting.{text_put}
use Rattle.vg_repair.specs.Repaired.{repaired_disks}
use Rattle.vg_repair.proofs.repaired.repaired_disks.Given as goal

abbrev pub invariant-loop-disk : goal.invariant-loop-disk
invariant-loop-disk l = record {
  front : (more : List Disk) × (l.rest.items ++ more ≡ l.fn.disks.items);
  done : repaired_disks l.repair.stale l.repair.strays l.repair.old (text_put l.repair) l.rest.items ++ reverse l.done.items
      ≡ repaired_disks l.repair.stale l.repair.strays l.repair.old (text_put l.repair) l.fn.disks.items;
}

abbrev pub decreases-loop-disk : goal.decreases-loop-disk
decreases-loop-disk l = length l.rest.items
