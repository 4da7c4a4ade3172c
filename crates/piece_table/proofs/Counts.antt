-- How many items pass a test, and which.
use Rattle.std.proofs.Common.{◌≡◌, ◌≤◌, ◌<◌, ℕ, suc, ◌+◌, Bool, true, false, not, cond, ◌||◌, List, [], ◌∷◌, length, get_or, refl, sym, ◌∙◌}
use Rattle.std.proofs.Common.{arith}
use Rattle.std.specs.Prelude.{All, count_by, take, drop}
use Rattle.std.specs.List.{insert, list_any, position_or_len}
use Rattle.std.proofs.lemmas.List.Elements.{All-append, All-cons, All-drop, All-take}
use Rattle.std.proofs.lemmas.List.Sums.{get_or-le-sum_by, sum_by-cons}
use Rattle.list_laws.proofs.Positions.{any_within}

-- the first that passes does
pub passes_at : {X : Type 0} (p : X → Bool) (xs : List X) (d : X) → list_any p xs ≡ true → p (get_or xs (position_or_len p xs) d) ≡ true
passes_at p [] d e = cc
passes_at p (x ∷ xs) d e =
    elim (p x) as (λ b. p x ≡ b → (b || list_any p xs) ≡ true → p (get_or (x ∷ xs) (cond (not b) (1 + position_or_len p xs) 0) d) ≡ true) [
      | true ↦ λ t h. t
      | false ↦ λ t h. let next : 1 + position_or_len p xs ≡ suc (position_or_len p xs) = omega arith in rw (next) (passes_at p xs d h)
    ] refl e

-- where none passes the count is 0, and the other way round
pub none_counted : {X : Type 0} (p : X → Bool) (xs : List X) → list_any p xs ≡ false → count_by p xs ≡ 0
none_counted p [] e = refl
none_counted {X} p (x ∷ xs) e =
    sum_by-cons (λ (y : X). cond (p y) 1 0) x xs
    ∙ (elim (p x) as (λ b. (b || list_any p xs) ≡ false → cond b 1 0 + count_by p xs ≡ 0) [
      | true ↦ λ h. cc
      | false ↦ λ h. let rest : count_by p xs ≡ 0 = none_counted p xs h in omega (arith, rest)
    ] e)

one_or_none : (b : Bool) → cond b 1 0 ≤ 0 → b ≡ false
one_or_none true le = absurd (omega (arith, le))
one_or_none false le = refl

pub none_passes : {X : Type 0} (p : X → Bool) (xs : List X) → count_by p xs ≡ 0 → (k : ℕ) (d : X) → k < length xs
    → p (get_or xs k d) ≡ false
none_passes {X} p xs none k d lt =
    let most = get_or-le-sum_by (λ (y : X). cond (p y) 1 0) xs k d lt in one_or_none (p (get_or xs k d)) (omega (arith, most, none))

pub none_any : {X : Type 0} (p : X → Bool) (xs : List X) (d : X) → count_by p xs ≡ 0 → list_any p xs ≡ false
none_any p xs d none =
    elim (list_any p xs) as (λ b. list_any p xs ≡ b → b ≡ false) [
      | true ↦ λ t.
          sym (passes_at p xs d t) ∙ none_passes p xs none (position_or_len p xs) d (any_within p xs t)
      | false ↦ λ t. refl
    ] refl

-- what holds of all and of one more
pub all_insert : {X : Type 0} (P : X → Type 0) (xs : List X) (at : ℕ) (x : X) → P x → All P xs → All P (insert xs at x)
all_insert P xs at x p all =
    All-append P (take at xs) (x ∷ drop at xs) (All-take P at xs all) (All-cons P x (drop at xs) p (All-drop P at xs all))
