use Rattle.std.proofs.Common.{◌≡◌, ◌++◌, drop, map}
use Rattle.std.specs.List.{enumerate_from}
use Rattle.vg_repair.specs.Putting.{text_put}
use Rattle.vg_repair.specs.Repaired.{repaired_area, repaired_areas}
use Rattle.vg_repair.proofs.repaired.repaired_areas.Given as goal

abbrev pub invariant-loop-number : goal.invariant-loop-number
invariant-loop-number l =
    l.list.items ++ map (repaired_area l.repair.stale l.repair.strays (text_put l.repair) l.pv)
    (enumerate_from l.number (drop l.number l.areas))
    ≡ repaired_areas l.repair.stale l.repair.strays (text_put l.repair) l.pv l.areas
