-- Lists that are cut at the first element that passes a test.
use Rattle.std.proofs.Common.{◌≡◌, ◌∙◌, ◌<◌, ◌≤◌, ◌+◌, ◌-◌, ℕ, Bool, true, false, nat_lt, if◌then◌else◌, List, [], ◌∷◌, length, take, drop}
use Rattle.std.proofs.Common.{All, Some, None, refl, ap, sym, subst, inl, inr, ◌⊎◌, arith, ltb-true, ltb-false}
use Rattle.std.specs.Prelude.{not, unwrap_or}
use Rattle.std.proofs.lemmas.Bool.{cases_Bool}
use Rattle.std.proofs.lemmas.List.{get_or-take, length-drop, length-take-le, nil_from_length, take_all}
use Rattle.std.proofs.lemmas.List.Elements.{All-from_get_or}
use Rattle.std.proofs.lemmas.List.Splits.{slice_split_first, slice_split_none}
use Rattle.std.proofs.lemmas.List.Sums.{fails_before_first, prefix_len-le-length}
use Rattle.std.specs.List.{after_first, before_first, position, position_or_len, prefix_len, slice_split}

-- the place of the first one, or the number of all where there is none
pub position_or_all : {X : Type 0} (p : X → Bool) (xs : List X) → unwrap_or (position p xs) (length xs) ≡ position_or_len p xs
position_or_all p xs = go (cases_Bool (nat_lt (position_or_len p xs) (length xs)))
  where
    go : (nat_lt (position_or_len p xs) (length xs) ≡ true) ⊎ (nat_lt (position_or_len p xs) (length xs) ≡ false)
        → unwrap_or (position p xs) (length xs) ≡ position_or_len p xs
    go (inl e) =
        subst (λ (b : Bool). unwrap_or (if b then Some (position_or_len p xs) else None) (length xs) ≡ position_or_len p xs) (sym e) refl
    go (inr e) =
        let past = ltb-false (position_or_len p xs) (length xs) e in
        let most = prefix_len-le-length (λ x. not (p x)) xs in
        subst (λ (b : Bool). unwrap_or (if b then Some (position_or_len p xs) else None) (length xs) ≡ position_or_len p xs) (sym e)
        (omega (arith, past, most))

pub position_most : {X : Type 0} (p : X → Bool) (xs : List X) → position_or_len p xs ≤ length xs
position_most p xs = prefix_len-le-length (λ x. not (p x)) xs

-- where there is none, all stands before it and nothing behind it
pub all_before : {X : Type 0} (p : X → Bool) (xs : List X) → length xs ≤ position_or_len p xs → before_first p xs ≡ xs
all_before p xs past = take_all (position_or_len p xs) xs past

pub none_after : {X : Type 0} (p : X → Bool) (xs : List X) → length xs ≤ position_or_len p xs → after_first p xs ≡ []
none_after p xs past =
    nil_from_length (after_first p xs) (let left = length-drop (position_or_len p xs + 1) xs in omega (arith, left, past))

-- all that is behind a place
pub rest_after : {X : Type 0} (xs : List X) (n : ℕ) → take (length xs - n) (drop n xs) ≡ drop n xs
rest_after xs n = take_all (length xs - n) (drop n xs) (let left = length-drop n xs in omega (arith, left))

-- the one part where there is none
pub one_part : {X : Type 0} (p : X → Bool) (xs : List X) (d : X) → length xs ≤ position_or_len p xs → slice_split p xs ≡ xs ∷ []
one_part p xs d past =
    slice_split_none p xs (All-from_get_or (λ x. p x ≡ false) xs d
    (λ k within. fails_before_first p xs k d (omega (arith, within, past))))

-- those before the first one don't pass
pub fails_before : {X : Type 0} (p : X → Bool) (xs : List X) (d : X) → All (λ x. p x ≡ false) (before_first p xs)
fails_before {X} p xs d =
    let long = length-take-le (position_or_len p xs) xs (prefix_len-le-length (λ x. not (p x)) xs) in
    All-from_get_or (λ x. p x ≡ false) (before_first p xs) d (λ k within.
    let less : k < position_or_len p xs = omega (arith, within, long) in
    subst (λ (x : X). p x ≡ false) (sym (get_or-take (position_or_len p xs) xs k d less)) (fails_before_first p xs k d less))

-- the first of the parts
pub first_part : {X : Type 0} (p : X → Bool) (xs : List X) (d : X)
    → (more : List (List X)) × (slice_split p xs ≡ before_first p xs ∷ more)
first_part {X} p xs d = go (cases_Bool (nat_lt (position_or_len p xs) (length xs)))
  where
    go : (nat_lt (position_or_len p xs) (length xs) ≡ true) ⊎ (nat_lt (position_or_len p xs) (length xs) ≡ false)
        → (more : List (List X)) × (slice_split p xs ≡ before_first p xs ∷ more)
    go (inl e) = (slice_split p (after_first p xs), slice_split_first p xs d (ltb-true (position_or_len p xs) (length xs) e))
    go (inr e) =
        let past = ltb-false (position_or_len p xs) (length xs) e in
        ([], one_part p xs d past ∙ ap (λ (part : List X). part ∷ []) (sym (all_before p xs past)))

-- what doesn't pass isn't the first one
pub fails_first : {X : Type 0} (p : X → Bool) (x : X) (xs : List X) → p x ≡ false → 0 < position_or_len p (x ∷ xs)
fails_first p x xs e =
    subst (λ (b : Bool). 0 < (if not b then 1 + prefix_len (λ x. not (p x)) xs else 0)) (sym e) (omega arith)
