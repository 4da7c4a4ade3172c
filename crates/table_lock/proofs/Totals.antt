-- Sums over the seats' views.
use Rattle.std.proofs.Common.{◌≡◌, ◌≢◌, ℕ, zero, suc, ◌+◌, ◌<◌, ◌≤◌, Bool, true, false, List, [], ◌∷◌, ◌++◌, set, sym, refl, ap, arith}
use mathlib.Core.Option.{some, some-injective, some-ne-none}
use lib.ListN.{get_elem?}
use Rattle.table_lock.specs.Views.{total, weight}

module _ {X : Type 0} (f : X → ℕ) where
  pub total-set : (l : List X) (i : ℕ) (v w : X) → get_elem? l i ≡ some v → total f (set l i w) + f v ≡ total f l + f w
  total-set [] i v w e = absurd (some-ne-none v (sym e))
  total-set (x ∷ xs) zero v w e = let is : f x ≡ f v = ap f (some-injective x v e) in omega arith
  total-set (x ∷ xs) (suc i) v w e = let r = total-set xs i v w e in omega arith

  pub total-snoc : (l : List X) (v : X) → total f (l ++ v ∷ []) ≡ total f l + f v
  total-snoc [] v = omega arith
  total-snoc (x ∷ xs) v = let r = total-snoc xs v in omega arith

  pub total-at : (l : List X) (i : ℕ) (v : X) → get_elem? l i ≡ some v → f v ≤ total f l
  total-at [] i v e = absurd (some-ne-none v (sym e))
  total-at (x ∷ xs) zero v e = let is : f x ≡ f v = ap f (some-injective x v e) in omega arith
  total-at (x ∷ xs) (suc i) v e = let r = total-at xs i v e in omega arith

  pub total-two : (l : List X) (i j : ℕ) (v w : X) → i ≢ j → get_elem? l i ≡ some v → get_elem? l j ≡ some w → f v + f w ≤ total f l
  total-two [] i j v w n e d = absurd (some-ne-none v (sym e))
  total-two (x ∷ xs) zero zero v w n e d = absurd (n refl)
  total-two (x ∷ xs) zero (suc j) v w n e d = let is : f x ≡ f v = ap f (some-injective x v e) in let r = total-at xs j w d in omega arith
  total-two (x ∷ xs) (suc i) zero v w n e d = let is : f x ≡ f w = ap f (some-injective x w d) in let r = total-at xs i v e in omega arith
  total-two (x ∷ xs) (suc i) (suc j) v w n e d = let r = total-two xs i j v w (λ h. n (ap suc h)) e d in omega arith

module _ {X : Type 0} (f : X → Bool) where
  some_step : (x : X) (xs : List X) (b : Bool) → f x ≡ b
      → (0 < total (λ y. weight (f y)) xs → (k : ℕ) × (v : X) × (get_elem? xs k ≡ some v) × (f v ≡ true))
      → 0 < weight b + total (λ y. weight (f y)) xs → (k : ℕ) × (v : X) × (get_elem? (x ∷ xs) k ≡ some v) × (f v ≡ true)
  some_step x xs true is more h = (0, x, refl, is)
  some_step x xs false is more h = let r = more (omega arith) in (suc r.0, r.1, r.2, r.3)

  -- where the sum is not 0, there is one
  pub some_one : (l : List X) → 0 < total (λ y. weight (f y)) l → (k : ℕ) × (v : X) × (get_elem? l k ≡ some v) × (f v ≡ true)
  some_one [] h = absurd (omega arith)
  some_one (x ∷ xs) h = some_step x xs (f x) refl (λ more. some_one xs more) h
