-- Which deferred pieces aren't looked at once a piece has left: those before the least that clashes with it.
use Rattle.std.proofs.Common.{◌≡◌, ◌<◌, ℕ, Bool, true, false, ◌&&◌, List, length, get_or, nat_eq, sym, ap, ◌∙◌, true≢false}
use Rattle.std.specs.Prelude.{Option}
use Rattle.std.specs.List.{list_any}
use Rattle.std.proofs.lemmas.Bool.{eqb-true}
use Rattle.std.proofs.lemmas.List.Folds.{Any-from_list_any, list_any_at}
use Rattle.claim_table.specs.declared.claim.Claim.{Claim}
use Rattle.claim_table.specs.Conflict.{clash}
use Rattle.claim_table.specs.Places.{is_below}
use Rattle.claim_table.specs.Steps.{has_number}
use Rattle.claim_table.proofs.Apart.{clash_swap}
use Rattle.claim_table.proofs.Passing.{and_left, and_right, none_at}

-- a number that was met is below the limit, and one has it
pub met_number : (claims : List Claim) (c : Claim) (limit : Option ℕ) (number : ℕ)
    → list_any (λ (d : Claim). is_below limit d.number && (nat_eq d.number number && clash d c)) claims ≡ true
    → (is_below limit number ≡ true) × (list_any (has_number number) claims ≡ true)
met_number claims c limit number any =
    let found = Any-from_list_any (λ (d : Claim). is_below limit d.number && (nat_eq d.number number && clash d c)) claims any in
    let has : has_number number found.1 ≡ true = and_left _ _ (and_right _ _ found.4) in (
      ap (is_below limit) (sym (eqb-true found.1.number number has)) ∙ and_left _ _ found.4,
      list_any_at (has_number number) claims found.0 found.1 found.2 (ap (has_number number) found.3 ∙ has),
    )

-- where no number below a limit is of one that clashes, none that has such a number does
pub none_below : (claims : List Claim) (c : Claim) (limit : Option ℕ)
    → list_any (λ (d : Claim). is_below limit d.number && clash d c) claims ≡ false
    → (k : ℕ) (d : Claim) → k < length claims → is_below limit (get_or claims k d).number ≡ true
    → clash c (get_or claims k d) ≡ false
none_below claims c limit none k d within below =
    clash_swap c (get_or claims k d)
    ∙ second _ _ below (none_at (λ (x : Claim). is_below limit x.number && clash x c) claims none k d within) where
      second : (a b : Bool) → a ≡ true → (a && b) ≡ false → b ≡ false
      second true b is no_both = no_both
      second false b is no_both = absurd (true≢false (sym is))
