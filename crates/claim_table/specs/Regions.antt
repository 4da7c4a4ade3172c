-- How the regions of started pieces are kept so that one is found.
use Rattle.std.specs.Prelude.{◌≡◌, ℕ, Bool, false, List, count_by}
use Rattle.std.specs.Option.{option_map_or}
use Rattle.std.specs.Ordering.{nat_cmp}
use Rattle.claim_table.specs.declared.claim.Claim.{Claim}
use Rattle.claim_table.specs.Sorted.{IsAscending}

-- these are the regions that the pieces lie in, since each test is passed by as many of them as there are pieces that lie in
-- one which passes it; they are sorted
pub record AreRegionsOf (claims : List Claim) (regions : List ℕ) : Type 0 where
  pub same : (p : ℕ → Bool) → count_by p regions ≡ count_by (λ c. option_map_or p c.region false) claims
  pub ascending : IsAscending nat_cmp regions
