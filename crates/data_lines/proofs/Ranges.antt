-- What a function gives of a range of sectors.
use Rattle.std.proofs.Common.{◌≡◌, ◌≤◌, ℕ, ◌+◌, ◌-◌, List, [], ◌∷◌, ◌++◌, map, sym, ap, ◌∙◌, arith}
use Rattle.std.specs.List.{range_with_len}
use Rattle.std.proofs.lemmas.List.FromFn.{map-range_with_len_more}

module _ (f : ℕ → List ℕ) (first : ℕ) where
  -- one sector more
  pub sector_more : (at : ℕ) (before all : List (List ℕ)) (next : List ℕ) → first ≤ at → before ≡ map f (range_with_len first (at - first))
      → next ≡ f at → all ≡ before ++ next ∷ [] → all ≡ map f (range_with_len first (at + 1 - first))
  sector_more at before all next le so_far is push =
      push ∙ ap (λ (l : List (List ℕ)). l ++ next ∷ []) so_far
      ∙ ap (λ (x : List ℕ). map f (range_with_len first (at - first)) ++ x ∷ []) is
      ∙ sym (map-range_with_len_more f first (at - first) at (omega arith))
      ∙ ap (λ (n : ℕ). map f (range_with_len first n)) (omega arith)

  -- and all of them
  pub sectors_all : (at count : ℕ) (all : List (List ℕ)) → at ≡ first + count → all ≡ map f (range_with_len first (at - first))
      → all ≡ map f (range_with_len first count)
  sectors_all at count all is so_far = so_far ∙ ap (λ (n : ℕ). map f (range_with_len first n)) (omega arith)
