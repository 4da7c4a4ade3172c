use Rattle.std.proofs.Common.{◌-◌, ◌≤◌}
use Rattle.vg_check.specs.Ids.{IdsStandApart}
use Rattle.vg_check.proofs.ids.kind_differs.Given as goal

abbrev pub invariant-loop-from : goal.invariant-loop-from
invariant-loop-from l = (l.from ≤ l.total) × IdsStandApart l.group l.kind 0 l.from

abbrev pub decreases-loop-from : goal.decreases-loop-from
decreases-loop-from l = l.total - l.from
