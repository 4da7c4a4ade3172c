-- The first item that passes a test, filters that keep a front, and tests of lists that were mapped or filtered.
use Rattle.std.proofs.Common.{◌≡◌, ◌<◌, ◌≤◌, ℕ, zero, suc, Bool, true, false, cond, ◌&&◌, ◌||◌, List, [], ◌∷◌, length}
use Rattle.std.proofs.Common.{get_or, take, map, filter, refl, ap, arith}
use Rattle.std.specs.List.{list_any, position_or_len}

-- it is there where none before it passes, and it does
pub first_index : {X : Type 0} (p : X → Bool) (xs : List X) (i : ℕ) → i ≤ length xs → ((k : ℕ) (d : X) → k < i → p (get_or xs k d) ≡ false)
    → ((d : X) → i < length xs → p (get_or xs i d) ≡ true) → position_or_len p xs ≡ i
first_index p [] i le before here = omega arith
first_index p (x ∷ xs) zero le before here = rw (here x (omega arith)) refl
first_index p (x ∷ xs) (suc i) le before here =
    let rest : position_or_len p xs ≡ i =
    first_index p xs i (omega arith) (λ k d lt. before (suc k) d (omega arith)) (λ d lt. here d (omega arith)) in
    rw (before 0 x (omega arith)) (omega (arith, rest))

-- a filter that the front passes, and no item behind it
pub filter_front : {X : Type 0} (p : X → Bool) (xs : List X) (at : ℕ) → at ≤ length xs
    → ((k : ℕ) (d : X) → k < at → p (get_or xs k d) ≡ true) → ((k : ℕ) (d : X) → at ≤ k → k < length xs → p (get_or xs k d) ≡ false)
    → filter p xs ≡ take at xs
filter_front p [] zero le front back = refl
filter_front p [] (suc at) le front back = absurd (omega arith)
filter_front p (x ∷ xs) zero le front back =
    rw (back 0 x (omega arith) (omega arith))
    (filter_front p xs 0 (omega arith) (λ k d lt. absurd (omega arith)) (λ k d from lt. back (suc k) d (omega arith) (omega arith)))
filter_front p (x ∷ xs) (suc at) le front back =
    rw (front 0 x (omega arith)) (ap (λ l. x ∷ l)
    (filter_front p xs at (omega arith) (λ k d lt. front (suc k) d (omega arith))
    (λ k d from lt. back (suc k) d (omega arith) (omega arith))))

-- a filter that all pass
pub filter_all : {X : Type 0} (xs : List X) → filter (λ (x : X). true) xs ≡ xs
filter_all [] = refl
filter_all (x ∷ xs) = ap (λ l. x ∷ l) (filter_all xs)

-- a test of a list that was mapped
pub any_map : {X Y : Type 0} (q : Y → Bool) (f : X → Y) (xs : List X) → list_any q (map f xs) ≡ list_any (λ x. q (f x)) xs
any_map q f [] = refl
any_map q f (x ∷ xs) = ap (λ b. q (f x) || b) (any_map q f xs)

-- a test of a list that was filtered
pub any_filter : {X : Type 0} (q p : X → Bool) (xs : List X) → list_any q (filter p xs) ≡ list_any (λ x. p x && q x) xs
any_filter q p [] = refl
any_filter q p (x ∷ xs) =
    elim (p x) as (λ b. list_any q (cond b (x ∷ filter p xs) (filter p xs)) ≡ ((b && q x) || list_any (λ y. p y && q y) xs)) [
      | true ↦ ap (λ b. q x || b) (any_filter q p xs)
      | false ↦ any_filter q p xs
    ]
