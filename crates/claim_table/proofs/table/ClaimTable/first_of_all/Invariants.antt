use Rattle.std.proofs.Common.{◌≡◌, ◌≤◌, ◌+◌, ◌-◌, length, take, drop}
use Rattle.claim_table.specs.Claims.{ready_after, ready_at}
use Rattle.claim_table.proofs.table.ClaimTable.first_of_all.Given as goal

abbrev pub invariant-loop-at : goal.invariant-loop-at
invariant-loop-at l =
    (ready_at l.self ≡ l.at + ready_after l.self (take l.at l.self.deferred) (drop l.at l.self.deferred)) × (l.at ≤ length l.self.deferred)

abbrev pub decreases-loop-at : goal.decreases-loop-at
decreases-loop-at l = length l.self.deferred - l.at
