-- The place of the first item that passes a test, where one does, and a list without one of its items.
use Rattle.std.proofs.Common.{◌≡◌, ◌<◌, ℕ, ◌+◌, Bool, true, false, not, cond, ◌||◌, List, [], ◌∷◌, length, get_or, nat_lt, refl, ap, ◌∙◌}
use Rattle.std.proofs.Common.{arith}
use Rattle.std.specs.Prelude.{Option, Some, None, All, position, remove, unwrap_or}
use Rattle.std.specs.List.{position_or_len, list_any}
use Rattle.std.proofs.lemmas.Bool.{ltb-true, ltb-false}
use Rattle.std.proofs.lemmas.List.Edits.{length-remove, get_or-remove_below, get_or-remove_above}

-- where an item passes, the first that does is in the list
pub any_within : {X : Type 0} (p : X → Bool) (xs : List X) → list_any p xs ≡ true → position_or_len p xs < length xs
any_within p [] e = cc
any_within p (x ∷ xs) e =
    elim (p x) as (λ b. (b || list_any p xs) ≡ true → cond (not b) (1 + position_or_len p xs) 0 < length (x ∷ xs)) [
      | true ↦ λ h. omega arith
      | false ↦ λ h. omega (arith, any_within p xs h)
    ] e

-- the place that was looked for is that of the first
pub placed : {X : Type 0} (p : X → Bool) (xs : List X) (o : Option ℕ) (r : ℕ) → o ≡ position p xs → r ≡ unwrap_or o 0 → list_any p xs ≡ true
    → (r ≡ position_or_len p xs) × (r < length xs)
placed p xs o r found is some =
    elim (nat_lt (position_or_len p xs) (length xs)) as
    (λ b. nat_lt (position_or_len p xs) (length xs) ≡ b → o ≡ cond b (Some (position_or_len p xs)) None
    → (r ≡ position_or_len p xs) × (r < length xs)) [
      | true ↦ λ t h. let same : r ≡ position_or_len p xs = is
          ∙ ap (λ (a : Option ℕ). unwrap_or a 0) h in (same, omega (arith, any_within p xs some))
      | false ↦ λ t h. absurd (omega (arith, any_within p xs some, ltb-false _ _ t))
    ] refl found

-- what holds of all holds of those that are left
pub all_remove : {X : Type 0} (P : X → Type 0) (xs : List X) (n : ℕ) → n < length xs → All P xs → All P (remove xs n)
all_remove P xs n lt all k d within =
    let count : length (remove xs n) + 1 ≡ length xs = length-remove xs n lt in
    elim (nat_lt k n) as (λ b. nat_lt k n ≡ b → P (get_or (remove xs n) k d)) [
      | true ↦ λ t. rw (get_or-remove_below xs n d k (ltb-true k n t) lt) (all k d (omega arith))
      | false ↦ λ t. rw (get_or-remove_above xs n d k (ltb-false k n t) lt) (all (k + 1) d (omega arith))
    ] refl
