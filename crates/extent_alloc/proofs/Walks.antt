-- Walks over lists and over the numbers of volumes.
use Rattle.std.proofs.Common.{◌≡◌, ℕ, zero, suc, ◌+◌, ◌-◌, ◌<◌, ◌≤◌, Bool, true, false, ◌||◌, List, [], ◌∷◌, ◌++◌, length, get_or, drop}
use Rattle.std.proofs.Common.{take, find, Some, refl, sym, ap, subst, take_all, ◌∙◌, arith, add-one, append_assoc, drop-cons, nat_eq}
use Rattle.std.specs.FinSet as set
use Rattle.std.specs.Ordering.{nat_cmp}
use Rattle.std.specs.Prelude.{All, slice_get}
use Rattle.std.specs.List.{filter, list_any, range_with_len}
use Rattle.std.proofs.lemmas.Bool.{cond-false, cond-true, eq-eqb, ne_eqb}
use Rattle.std.proofs.lemmas.Option.{get_or_from_slice_get, slice_get_within}

-- whether one of what is left passes
pub any_here : {X : Type 0} (p : X → Bool) (xs : List X) (i : ℕ) (x : X) → slice_get xs i ≡ Some x
    → list_any p (drop i xs) ≡ (p x || list_any p (drop (i + 1) xs))
any_here p xs i x is =
    rw add-one (ap (list_any p) (drop-cons xs i x (slice_get_within xs i x is))
    ∙ ap (λ y. p y || list_any p (drop (suc i) xs)) (get_or_from_slice_get xs i x x is))

-- the numbers that are left
pub range_next : (n count : ℕ) → n < count → range_with_len n (count - n) ≡ n ∷ range_with_len (n + 1) (count - (n + 1))
range_next n count lt = ap (range_with_len n) (let e : count - n ≡ suc (count - (n + 1)) = omega (arith, lt) in e)

pub find_next : (p : ℕ → Bool) (n count : ℕ) → n < count → p n ≡ false
    → find p (range_with_len n (count - n)) ≡ find p (range_with_len (n + 1) (count - (n + 1)))
find_next p n count lt fails = ap (find p) (range_next n count lt) ∙ cond-false (p n) _ _ fails

pub found_here : (p : ℕ → Bool) (n count : ℕ) → n < count → p n ≡ true → find p (range_with_len n (count - n)) ≡ Some n
found_here p n count lt passes = ap (find p) (range_next n count lt) ∙ cond-true (p n) _ _ passes

-- those that were kept, and the next one
pub kept : {X : Type 0} (p : X → Bool) (items rest : List X) (x : X) → p x ≡ true
    → (items ++ x ∷ []) ++ filter p rest ≡ items ++ filter p (x ∷ rest)
kept p items rest x passes =
    append_assoc items (x ∷ []) (filter p rest)
    ∙ ap (λ some. items ++ some) (sym (cond-true (p x) (x ∷ filter p rest) (filter p rest) passes))

pub passed : {X : Type 0} (p : X → Bool) (items rest : List X) (x : X) → p x ≡ false → items ++ filter p rest ≡ items ++ filter p (x ∷ rest)
passed p items rest x fails = ap (λ some. items ++ some) (sym (cond-false (p x) (x ∷ filter p rest) (filter p rest) fails))

-- whether a set has a number
pub empty_is : (s : set.FinSet nat_cmp) → s ≡ set.empty → nat_eq (set.len s) 0 ≡ true
empty_is s same = eq-eqb (set.len s) 0 (ap set.len same ∙ set.len-empty nat_cmp)

pub not_empty : (s : set.FinSet nat_cmp) → (s ≡ set.empty → ⊥) → nat_eq (set.len s) 0 ≡ false
not_empty s other = ne_eqb (set.len s) 0 (λ none. other (set.empty_of_len s none))

-- all of a list that was walked whole
pub all_taken : {X : Type 0} (P : X → Type 0) (xs : List X) (i : ℕ) → length xs ≤ i → All P (take i xs) → All P xs
all_taken P xs i le all = subst (All P) (take_all i xs le) all

-- the first of a list, and the next one
pub take_more : {X : Type 0} (xs : List X) (i : ℕ) (d : X) → i < length xs → take (i + 1) xs ≡ take i xs ++ get_or xs i d ∷ []
take_more [] i d lt = absurd (omega (arith, lt))
take_more (x ∷ xs) zero d lt = refl
take_more (x ∷ xs) (suc i) d lt =
    ap (λ n. take n (x ∷ xs)) (let e : suc i + 1 ≡ suc (i + 1) = omega arith in e)
    ∙ ap (λ more. x ∷ more) (take_more xs i d (omega (arith, lt)))
