-- Lists that are made from numbered elements.
use Rattle.std.proofs.Common.{◌≡◌, ℕ, zero, suc, ◌+◌, List, [], ◌∷◌, ◌++◌, length, map, Some, inl, inr, refl, ap, subst, ◌∙◌, arith}
use Rattle.std.specs.Prelude.{All, slice_get}
use Rattle.std.specs.List.{enumerate_from}
use Rattle.std.proofs.lemmas.List.{length-map}
use Rattle.std.proofs.lemmas.List.Elements.{All-cons, All-head, All-nil, All-tail}
use Rattle.std.proofs.lemmas.List.FromFn.{length-enumerate_from}
use Rattle.std.proofs.lemmas.Option.{get_or_from_slice_get, same_Some, slice_get_within}
use Rattle.list_laws.proofs.Members.{In}

module _ {X : Type 0} {Y : Type 0} (g : ℕ × X → Y) where
  pub mapped_length : (xs : List X) → length (map g (enumerate_from 0 xs)) ≡ length xs
  mapped_length xs = length-map (enumerate_from 0 xs) g ∙ length-enumerate_from 0 xs

  -- what holds of each by its number holds of all
  all_from : (P : Y → Type 0) (first : ℕ) (xs : List X) → ((k : ℕ) (x : X) → slice_get xs k ≡ Some x → P (g (first + k, x)))
      → All P (map g (enumerate_from first xs))
  all_from P first [] each = All-nil P
  all_from P first (x ∷ xs) each =
      All-cons P (g (first, x)) (map g (enumerate_from (first + 1) xs)) (subst (λ (n : ℕ). P (g (n, x))) (omega arith) (each 0 x refl))
      (all_from P (first + 1) xs (λ k y is. subst (λ (n : ℕ). P (g (n, y))) (omega arith) (each (suc k) y is)))

  pub mapped_all : (P : Y → Type 0) (xs : List X) → ((k : ℕ) (x : X) → slice_get xs k ≡ Some x → P (g (k, x)))
      → All P (map g (enumerate_from 0 xs))
  mapped_all P xs each = all_from P 0 xs (λ k x is. subst (λ (n : ℕ). P (g (n, x))) (omega arith) (each k x is))

  -- which one stands at a number
  at_from : (first : ℕ) (xs : List X) (k : ℕ) (y : Y) → slice_get (map g (enumerate_from first xs)) k ≡ Some y
      → (x : X) × (slice_get xs k ≡ Some x) × (g (first + k, x) ≡ y)
  at_from first [] k y is = cc
  at_from first (x ∷ xs) zero y is = (x, refl, ap (λ (n : ℕ). g (n, x)) (omega arith) ∙ same_Some (g (first, x)) y is)
  at_from first (x ∷ xs) (suc k) y is = let w = at_from (first + 1) xs k y is in (w.0, w.1, ap (λ (n : ℕ). g (n, w.0)) (omega arith) ∙ w.2)

  pub mapped_at : (xs : List X) (k : ℕ) (y : Y) → slice_get (map g (enumerate_from 0 xs)) k ≡ Some y
      → (x : X) × (slice_get xs k ≡ Some x) × (g (k, x) ≡ y)
  mapped_at xs k y is = let w = at_from 0 xs k y is in (w.0, w.1, ap (λ (n : ℕ). g (n, w.0)) (omega arith) ∙ w.2)

  -- where a second function doesn't see the first
  pub mapped_same : {Z : Type 0} (f : Y → Z) (h : X → Z) → ((k : ℕ) (x : X) → f (g (k, x)) ≡ h x) → (first : ℕ) (xs : List X)
      → map f (map g (enumerate_from first xs)) ≡ map h xs
  mapped_same f h same first [] = refl
  mapped_same {Z} f h same first (x ∷ xs) = both (same first x) (mapped_same f h same (first + 1) xs)
    where
      both : {a b : Z} {ys zs : List Z} → a ≡ b → ys ≡ zs → (a ∷ ys) ≡ (b ∷ zs)
      both e r = cc

  -- numbers of a list with one more at its end
  enumerate_more : (first : ℕ) (xs : List X) (x : X)
      → enumerate_from first (xs ++ x ∷ []) ≡ enumerate_from first xs ++ (first + length xs, x) ∷ []
  enumerate_more first [] x = ap (λ (n : ℕ). (n, x) ∷ []) (omega arith)
  enumerate_more first (y ∷ xs) x =
      ap (λ (l : List (ℕ × X)). (first, y) ∷ l)
      (enumerate_more (first + 1) xs x ∙ ap (λ (n : ℕ). enumerate_from (first + 1) xs ++ (n, x) ∷ []) (omega arith))

  pub mapped_more : (xs : List X) (x : X) → map g (enumerate_from 0 (xs ++ x ∷ [])) ≡ map g (enumerate_from 0 xs) ++ g (length xs, x) ∷ []
  mapped_more xs x =
      ap (map g) (enumerate_more 0 xs x) ∙ map_both (enumerate_from 0 xs)
      ∙ ap (λ (n : ℕ). map g (enumerate_from 0 xs) ++ g (n, x) ∷ []) (omega arith)
    where
      map_both : (ys : List (ℕ × X)) → map g (ys ++ (0 + length xs, x) ∷ []) ≡ map g ys ++ g (0 + length xs, x) ∷ []
      map_both [] = refl
      map_both (y ∷ ys) = ap (λ (l : List Y). g y ∷ l) (map_both ys)

-- what holds of all holds of a member, and of the one at a number
pub all_in : {X : Type 0} (P : X → Type 0) (xs : List X) (x : X) → In xs x → All P xs → P x
all_in P [] x is all = absurd is
all_in P (y ∷ ys) x (inl here) all = subst P here (All-head P y ys all)
all_in P (y ∷ ys) x (inr later) all = all_in P ys x later (All-tail P y ys all)

pub all_at : {X : Type 0} (P : X → Type 0) (xs : List X) (k : ℕ) (x : X) → slice_get xs k ≡ Some x → All P xs → P x
all_at P xs k x is all = subst P (get_or_from_slice_get xs k x x is) (all k x (slice_get_within xs k x is))

-- the one behind a front
pub at_end : {X : Type 0} (xs more : List X) (x : X) → slice_get ((xs ++ x ∷ []) ++ more) (length xs) ≡ Some x
at_end [] more x = refl
at_end (y ∷ xs) more x = at_end xs more x
