use Rattle.std.proofs.Common.{◌≡◌, ◌++◌, drop}
use Rattle.std.specs.List.{enumerate_from, filter_map}
use Rattle.vg_repair.specs.Stale.{stale_in}
use Rattle.vg_repair.proofs.areas.push_stale.Given as goal

abbrev pub invariant-loop-number : goal.invariant-loop-number
invariant-loop-number l =
    l.list.items ++ filter_map (stale_in l.stale l.pv) (enumerate_from l.number (drop l.number l.areas))
    ≡ l.fn.list.items ++ filter_map (stale_in l.stale l.pv) (enumerate_from 0 l.areas)
