use Rattle.std.proofs.Common.{◌≡◌, ◌++◌, drop}
use Rattle.std.specs.List.{flat_map}
use Rattle.extent_map.specs.Covered.{lv_on}
use Rattle.extent_map.proofs.leg_runs.runs_there.Given as goal

abbrev pub invariant-loop-number : goal.invariant-loop-number
invariant-loop-number l = l.runs.items ++ flat_map (lv_on l.pv) (drop l.number l.lvs) ≡ flat_map (lv_on l.pv) l.lvs
