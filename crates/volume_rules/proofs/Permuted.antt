-- What holds of all pairs, in either order, holds of them in any order of the list.
use Rattle.std.proofs.Common.{◌≡◌, ℕ, ◌+◌, ◌*◌, ◌^◌, ◌<◌, ◌≤◌, ◌⊎◌, List, length, get_or, inl, inr, refl, sym, ap, subst, ◌∙◌, arith}
use Rattle.std.specs.Prelude.{AllPairs, All}
use Rattle.std.specs.List.{swap, AllAdjacentBelow}
use Rattle.std.specs.List.Sorted.{IsPermutation, IsNonDecreasingBy}
use Rattle.std.proofs.lemmas.Bool.{cases_order, cases_eq}
use Rattle.std.proofs.lemmas.List.Edits.{swapped_from_swap, length-swap}
use Rattle.std.proofs.lemmas.List.Sorted.{IsPermutation-keeps, IsPermutation-sym, All-permutation}
use Rattle.meta_model.specs.declared.extent_span.ExtentSpan.{ExtentSpan}
use Rattle.volume_rules.specs.Sorting.{CanBeSorted, StandsBefore, EndsBefore, NoExtentInBoth}
use Rattle.volume_rules.proofs.Sorted.{neighbours_show, neighbours_tell}

-- of two places that differ, in either order
abbrev AllDifferent : {X : Type 0} → (X → X → Type 0) → List X → Type 0
AllDifferent {X} R xs = (i j : ℕ) (d : X) → (i ≡ j → ⊥) → i < length xs → j < length xs → R (get_or xs i d) (get_or xs j d)

different : {X : Type 0} (R : X → X → Type 0) (turn : (x y : X) → R x y → R y x) (xs : List X) → AllPairs R xs → AllDifferent R xs
different R turn xs pairs i j d differ here there =
    elim (cases_order i j) [
      | inl same ↦ absurd (differ same)
      | inr rest ↦ elim rest [ inl less ↦ pairs i j d less there | inr more ↦ turn _ _ (pairs j i d more here) ]
    ]

pairs_of : {X : Type 0} (R : X → X → Type 0) (xs : List X) → AllDifferent R xs → AllPairs R xs
pairs_of R xs all i j d less within = all i j d (λ same. absurd (omega arith)) (omega arith) within

-- where the element at i stood before
abbrev Came : ℕ → ℕ → ℕ → ℕ → Type 0
Came a b i k = ((i ≡ a) × (k ≡ b)) ⊎ (((i ≡ b) × (k ≡ a)) ⊎ ((i ≡ a → ⊥) × (i ≡ b → ⊥) × (k ≡ i)))

came_from : {X : Type 0} (l : List X) (a b i : ℕ) (d : X) → a < length l → b < length l → i < length l
    → (k : ℕ) × Came a b i k × (k < length l) × (get_or (swap l a b) i d ≡ get_or l k d)
came_from l a b i d in_a in_b within =
    let s = swapped_from_swap l (swap l a b) a b d in_a in_b refl in
    elim (cases_eq i a) [
      | inl is ↦ (b, inl (is, refl), in_b, ap (λ (n : ℕ). get_or (swap l a b) n d) is ∙ s.0)
      | inr not_a ↦
          elim (cases_eq i b) [
            | inl is ↦ (a, inr (inl (is, refl)), in_a, ap (λ (n : ℕ). get_or (swap l a b) n d) is ∙ s.1)
            | inr not_b ↦ (i, inr (inr (not_a, not_b, refl)), within, s.2 i not_a not_b)
          ]
    ]

came_different : (a b i j k m : ℕ) → Came a b i k → Came a b j m → (i ≡ j → ⊥) → k ≡ m → ⊥
came_different a b i j k m (inl x) (inl y) differ same = differ (omega (arith, x.0, y.0))
came_different a b i j k m (inl x) (inr (inl y)) differ same = differ (omega (arith, x.0, y.0, x.1, y.1))
came_different a b i j k m (inl x) (inr (inr y)) differ same = y.1 (omega (arith, x.1, y.2))
came_different a b i j k m (inr (inl x)) (inl y) differ same = differ (omega (arith, x.0, y.0, x.1, y.1))
came_different a b i j k m (inr (inl x)) (inr (inl y)) differ same = differ (omega (arith, x.0, y.0))
came_different a b i j k m (inr (inl x)) (inr (inr y)) differ same = y.0 (omega (arith, x.1, y.2))
came_different a b i j k m (inr (inr x)) (inl y) differ same = x.1 (omega (arith, x.2, y.1))
came_different a b i j k m (inr (inr x)) (inr (inl y)) differ same = x.0 (omega (arith, x.2, y.1))
came_different a b i j k m (inr (inr x)) (inr (inr y)) differ same = differ (omega (arith, x.2, y.2))

step : {X : Type 0} (R : X → X → Type 0) (l : List X) (a b : ℕ) → a < length l → b < length l → AllDifferent R l
    → AllDifferent R (swap l a b)
step R l a b in_a in_b all i j d differ here there =
    let long = length-swap l a b in
    let x = came_from l a b i d in_a in_b (omega arith) in
    let y = came_from l a b j d in_a in_b (omega arith) in
    subst (λ z. R z (get_or (swap l a b) j d)) (sym x.3)
    (subst (R (get_or l x.0 d)) (sym y.3) (all x.0 y.0 d (came_different a b i j x.0 y.0 x.1 y.1 differ) x.2 y.2))

pub pairs_permuted : {X : Type 0} (R : X → X → Type 0) (turn : (x y : X) → R x y → R y x) (xs ys : List X) → IsPermutation xs ys
    → AllPairs R xs → AllPairs R ys
pairs_permuted R turn xs ys moved pairs =
    pairs_of R ys (IsPermutation-keeps xs (AllDifferent R) (different R turn xs pairs) (λ l i j in_i in_j all. step R l i j in_i in_j all)
    ys moved)

-- in the order of the numbers by which they are sorted, each stands before the next
stands_from : (a b : ExtentSpan) → CanBeSorted a → CanBeSorted b → a.on * 2 ^ 64 + a.first ≤ b.on * 2 ^ 64 + b.first → StandsBefore a b
stands_from a b can can' le =
    let x : a.first < 2 ^ 48 = can.first in
    let y : b.first < 2 ^ 48 = can'.first in
    elim (cases_order a.on b.on) [
      | inl same ↦ inr (same, omega arith)
      | inr rest ↦ elim rest [ inl less ↦ inl less | inr more ↦ absurd (omega arith) ]
    ]

pub in_order : (runs : List ExtentSpan) → All CanBeSorted runs → IsNonDecreasingBy (λ run. run.on * 2 ^ 64 + run.first) runs
    → AllAdjacentBelow StandsBefore runs (length runs)
in_order runs can sorted k d lt = stands_from _ _ (can k d (omega arith)) (can (k + 1) d lt) (sorted k (k + 1) d (omega arith) lt)

turned : (x y : ExtentSpan) → NoExtentInBoth x y → NoExtentInBoth y x
turned x y apart extent same a b c e = apart extent (sym same) c e a b

-- what the test of sorted runs says of the runs as they were
pub sorted_tells : (before after : List ExtentSpan) → All CanBeSorted before → IsPermutation before after
    → AllAdjacentBelow StandsBefore after (length after)
    → (AllAdjacentBelow EndsBefore after (length after) → AllPairs NoExtentInBoth before)
    × (AllPairs NoExtentInBoth before → AllAdjacentBelow EndsBefore after (length after))
sorted_tells before after can moved sorted =
    let can' : All CanBeSorted after = All-permutation CanBeSorted before after moved can in (
      λ near. pairs_permuted NoExtentInBoth turned after before (IsPermutation-sym before after moved) (neighbours_show after near),
      λ apart. neighbours_tell after sorted (λ k d lt. (can' k d lt).count.0)
          (pairs_permuted NoExtentInBoth turned before after moved apart),
    )
