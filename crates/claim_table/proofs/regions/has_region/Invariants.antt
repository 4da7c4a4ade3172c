use Rattle.std.proofs.Common.{◌≤◌, ◌-◌}
use Rattle.claim_table.proofs.Halving.{IsHalving}
use Rattle.claim_table.proofs.regions.has_region.Given as goal

abbrev pub invariant-loop-low : goal.invariant-loop-low
invariant-loop-low g l = IsHalving l.regions l.region l.low l.high (l.steps - l.fn.steps) × (l.fn.steps ≤ l.steps)

abbrev pub decreases-loop-low : goal.decreases-loop-low
decreases-loop-low g l = l.high - l.low
