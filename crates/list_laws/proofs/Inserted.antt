-- One more element within a list.
use Rattle.std.proofs.Common.{◌≡◌, ◌<◌, ℕ, zero, suc, Bool, true, false, ◌||◌, List, [], ◌∷◌, ◌++◌, length, get_or, Some, refl, arith}
use Rattle.std.specs.Prelude.{slice_get, All, AllPairs}
use Rattle.std.specs.List.{AllByRecursion as Each, list_any}
use Rattle.std.proofs.lemmas.Bool.{true≢false}
use Rattle.std.proofs.lemmas.List.Elements.{All-from_recursion, recursion_from_All}
use Rattle.std.proofs.lemmas.List.Kept.{AllPairs-cons}

module _ {X : Type 0} (P : X → Type 0) where
  pub each_inserted : (xs zs : List X) (y : X) → Each P (xs ++ zs) → P y → Each P (xs ++ y ∷ zs)
  each_inserted [] zs y all here = (here, all)
  each_inserted (x ∷ xs) zs y all here = (all.0, each_inserted xs zs y all.1 here)

  pub each_pushed : (xs : List X) (y : X) → Each P xs → P y → Each P (xs ++ y ∷ [])
  each_pushed [] y all here = (here, tt)
  each_pushed (x ∷ xs) y all here = (all.0, each_pushed xs y all.1 here)

  pub all_pushed : (xs : List X) (y : X) → All P xs → P y → All P (xs ++ y ∷ [])
  all_pushed xs y all here = All-from_recursion P (xs ++ y ∷ []) (each_pushed xs y (recursion_from_All P xs all) here)

module _ {X : Type 0} (R : X → X → Type 0) where
  pub first_pairs : (x : X) (xs : List X) → AllPairs R (x ∷ xs) → All (R x) xs
  first_pairs x xs pairs k d within = pairs 0 (suc k) d (omega arith) (omega arith)

  pub later_pairs : (x : X) (xs : List X) → AllPairs R (x ∷ xs) → AllPairs R xs
  later_pairs x xs pairs i j d before within = pairs (suc i) (suc j) d (omega arith) (omega arith)

  -- an element that is related to all of them, whatever the order
  pub pairs_inserted : (xs zs : List X) (y : X) → AllPairs R (xs ++ zs) → Each (λ x. R x y) xs → All (R y) zs → AllPairs R (xs ++ y ∷ zs)
  pairs_inserted [] zs y pairs before behind = AllPairs-cons R y zs behind pairs
  pairs_inserted (x ∷ xs) zs y pairs before behind =
      AllPairs-cons R x (xs ++ y ∷ zs)
      (All-from_recursion (R x) (xs ++ y ∷ zs)
      (each_inserted (R x) xs zs y (recursion_from_All (R x) (xs ++ zs) (first_pairs x (xs ++ zs) pairs)) before.0))
      (pairs_inserted xs zs y (later_pairs x (xs ++ zs) pairs) before.1 behind)

pub slice_get-pushed : {X : Type 0} (xs ys : List X) (k : ℕ) (x : X) → slice_get xs k ≡ Some x → slice_get (xs ++ ys) k ≡ Some x
slice_get-pushed [] ys k x is = absurd cc
slice_get-pushed (y ∷ xs) ys zero x is = is
slice_get-pushed (y ∷ xs) ys (suc k) x is = slice_get-pushed xs ys k x is

pub none_by : (a b : Bool) → (a || b) ≡ false → (a ≡ false) × (b ≡ false)
none_by true b none = absurd (true≢false none)
none_by false b none = (refl, none)

-- where none passes, none of them does
pub none_passes : {X : Type 0} (p : X → Bool) (xs : List X) → list_any p xs ≡ false → Each (λ x. p x ≡ false) xs
none_passes p [] none = tt
none_passes p (x ∷ xs) none =
    let parts : (p x ≡ false) × (list_any p xs ≡ false) = none_by (p x) (list_any p xs) none in
    (parts.0, none_passes p xs parts.1)

pub none_at : {X : Type 0} (p : X → Bool) (xs : List X) (k : ℕ) (d : X) → list_any p xs ≡ false → k < length xs → p (get_or xs k d) ≡ false
none_at p xs k d none within = All-from_recursion (λ x. p x ≡ false) xs (none_passes p xs none) k d within
