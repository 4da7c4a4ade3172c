-- None before the first one clashes with a claim that was looked at and conflicts with nothing.
use Rattle.std.proofs.Common.{◌≡◌, ◌≤◌, ◌<◌, ℕ, true, false, get_or, length, take}
use Rattle.std.specs.Prelude.{◌⊎◌}
use Rattle.claim_table.specs.declared.claim.Claim.{Claim}
use Rattle.claim_table.specs.Conflict.{clash}
use Rattle.claim_table.specs.Claims.{is_free}
use Rattle.claim_table.specs.Steps.{no_claim}
use Rattle.claim_table.proofs.table.ClaimTable.first_ready.Given as goal

abbrev pub invariant-loop-claim : goal.invariant-loop-claim
invariant-loop-claim l = record {
  within : l.first ≤ length l.self.deferred;
  looked :
      (j k : ℕ) (y d : Claim) → j < l.claim-index → k < l.first → clash (get_or l.claim-items j y) (get_or l.self.deferred k d) ≡ true
      → is_free l.self (take k l.self.deferred) (get_or l.self.deferred k d) ≡ false;
  here :
      (l.first ≡ length l.self.deferred)
      ⊎ ((l.first < length l.self.deferred) × (is_free l.self (take l.first l.self.deferred) (get_or l.self.deferred l.first no_claim) ≡ true));
}
