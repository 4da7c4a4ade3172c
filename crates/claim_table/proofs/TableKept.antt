-- What the parts of a table keep as pieces enter, start and leave.
use Rattle.std.proofs.Common.{◌≡◌, ◌<◌, ◌≤◌, ℕ, not, nat_le, List, length, get_or, set, arith}
use Rattle.std.specs.Prelude.{All, AllPairs, Option}
use Rattle.std.proofs.lemmas.List.{length-set}
use Rattle.std.proofs.lemmas.List.Quantifiers.{all_pairs_push}
use Rattle.std.proofs.lemmas.List.Sums.{prefix_len-le-length}
use Rattle.claim_table.specs.declared.claim.Claim.{Claim}
use Rattle.claim_table.specs.Claims.{Claims}
use Rattle.claim_table.specs.Steps.{place_by_number, put_by_number}
use Rattle.claim_table.proofs.ByNumber.{put_last}
use Rattle.claim_table.proofs.Indexed.{number_kept}

-- claims by their parts
abbrev pub claims_of : List Claim → List Claim → Option ℕ → List ℕ → ℕ → Claims
claims_of started deferred closed suspended spare =
    record { started = started; deferred = deferred; closed = closed; suspended = suspended; spare = spare }

-- each number is below those of later pieces
abbrev pub Rise : List Claim → Type 0
Rise claims = AllPairs (λ (c d : Claim). c.number < d.number) claims

-- a number belongs among the pieces or behind them
pub place_within : (claims : List Claim) (number : ℕ) → place_by_number claims number ≤ length claims
place_within claims number = prefix_len-le-length (λ (c : Claim). not (nat_le number c.number)) claims

-- a greater number goes to the end
pub rise_put : (claims : List Claim) (c : Claim) → All (λ (d : Claim). d.number < c.number) claims → Rise claims
    → Rise (put_by_number claims c)
rise_put claims c all up = rw (put_last claims c all) (all_pairs_push (λ (a b : Claim). a.number < b.number) claims c up all)

-- another region changes no number
pub rise_region : (claims : List Claim) (at : ℕ) (region : Option ℕ) (e : Claim) → at < length claims → Rise claims
    → Rise (set claims at (record (get_or claims at e) { region = region }))
rise_region claims at region e lt up i j d below within =
    let long : length (set claims at (record (get_or claims at e) { region = region })) ≡ length claims =
    length-set claims at (record (get_or claims at e) { region = region }) in
    omega (
      arith,
      number_kept claims at region e lt i d (omega arith),
      number_kept claims at region e lt j d (omega arith),
      up i j d below (omega arith),
    )
