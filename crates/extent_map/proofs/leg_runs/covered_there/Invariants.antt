use Rattle.std.proofs.Common.{◌≡◌, ◌+◌, drop}
use Rattle.std.specs.List.{flat_map}
use Rattle.extent_map.specs.Covered.{extents_in, lv_on}
use Rattle.extent_map.proofs.leg_runs.covered_there.Given as goal

abbrev pub invariant-loop-number : goal.invariant-loop-number
invariant-loop-number l = l.total + extents_in (flat_map (lv_on l.pv) (drop l.number l.lvs)) ≡ extents_in (flat_map (lv_on l.pv) l.lvs)
