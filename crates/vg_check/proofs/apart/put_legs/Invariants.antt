use Rattle.std.proofs.Common.{take, map}
use Rattle.vg_check.specs.SortedRuns.{leg_run, Puts}
use Rattle.vg_check.proofs.apart.put_legs.Given as goal

abbrev pub invariant-loop-leg : goal.invariant-loop-leg
invariant-loop-leg l = Puts l.fn.runs l.fn.count (map (leg_run l.extents) (take l.leg-index l.legs)) l.runs l.count
