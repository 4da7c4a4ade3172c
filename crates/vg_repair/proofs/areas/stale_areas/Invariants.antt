use Rattle.std.proofs.Common.{◌≡◌, ◌++◌, drop}
use Rattle.std.specs.List.{enumerate_from, flat_map}
use Rattle.vg_repair.specs.Stale.{stale_by, stale_on}
use Rattle.vg_repair.proofs.areas.stale_areas.Given as goal

abbrev pub invariant-loop-number : goal.invariant-loop-number
invariant-loop-number l =
    l.list.items ++ flat_map (stale_on l.stale) (enumerate_from l.number (drop l.number l.disks)) ≡ stale_by l.stale l.disks
