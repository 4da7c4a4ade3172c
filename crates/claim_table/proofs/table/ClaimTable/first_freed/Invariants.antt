-- None so far clashes with the claim and conflicts with nothing.
use Rattle.std.proofs.Common.{◌≡◌, ◌≤◌, ◌<◌, ◌-◌, ℕ, true, false, get_or, take}
use Rattle.claim_table.specs.declared.claim.Claim.{Claim}
use Rattle.claim_table.specs.Conflict.{clash}
use Rattle.claim_table.specs.Claims.{is_free}
use Rattle.claim_table.proofs.table.ClaimTable.first_freed.Given as goal

abbrev pub invariant-loop-at : goal.invariant-loop-at
invariant-loop-at l = record {
  within : l.at ≤ l.end;
  before : (k : ℕ) (d : Claim) → k < l.at → clash l.claim (get_or l.self.deferred k d) ≡ true
      → is_free l.self (take k l.self.deferred) (get_or l.self.deferred k d) ≡ false;
}

abbrev pub decreases-loop-at : goal.decreases-loop-at
decreases-loop-at l = l.end - l.at
