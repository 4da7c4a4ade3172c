-- What holds of all pairs of a list, by recursion.
use Rattle.std.proofs.Common.{zero, suc, Bool, List, [], ◌∷◌, ◌++◌, arith}
use Rattle.std.specs.Prelude.{All, AllPairs}
use Rattle.std.specs.List.{AllByRecursion, filter}
use Rattle.std.proofs.lemmas.Bool.{cond_both}
use Rattle.std.proofs.lemmas.List.Elements.{All-from_recursion, recursion_from_All}
use Rattle.std.proofs.lemmas.List.Kept.{AllPairs-cons}

-- R holds of each element and each later one
abbrev pub Pairs : {X : Type 0} → (X → X → Type 0) → List X → Type 0
Pairs R [] = Unit {0}
Pairs R (x ∷ xs) = AllByRecursion (R x) xs × Pairs R xs

module _ {X : Type 0} (R : X → X → Type 0) where
  first_and : (x : X) (xs : List X) → AllPairs R (x ∷ xs) → All (R x) xs
  first_and x xs pairs k d lt = pairs zero (suc k) d (omega arith) (omega (arith, lt))

  pub pairs_from : (xs : List X) → AllPairs R xs → Pairs R xs
  pairs_from [] pairs = tt
  pairs_from (x ∷ xs) pairs = (
    recursion_from_All (R x) xs (first_and x xs pairs),
    pairs_from xs (λ i j d lt within. pairs (suc i) (suc j) d (omega (arith, lt)) (omega (arith, within))),
  )

  pub pairs_to : (xs : List X) → Pairs R xs → AllPairs R xs
  pairs_to [] pairs = λ i j d lt within. absurd (omega (arith, within))
  pairs_to (x ∷ xs) pairs = AllPairs-cons R x xs (All-from_recursion (R x) xs pairs.0) (pairs_to xs pairs.1)

  pub pairs_append : (xs ys : List X) → Pairs R xs → Pairs R ys → AllByRecursion (λ x. AllByRecursion (R x) ys) xs → Pairs R (xs ++ ys)
  pairs_append [] ys pairs pairs' both = pairs'
  pairs_append (x ∷ xs) ys pairs pairs' both = (join xs pairs.0, pairs_append xs ys pairs.1 pairs' both.1)
    where
      join : (zs : List X) → AllByRecursion (R x) zs → AllByRecursion (R x) (zs ++ ys)
      join [] all = both.0
      join (z ∷ zs) all = (all.0, join zs all.1)

module _ {X : Type 0} (P : X → Type 0) where
  pub all_filter : (p : X → Bool) (xs : List X) → AllByRecursion P xs → AllByRecursion P (filter p xs)
  all_filter p [] all = tt
  all_filter p (x ∷ xs) all = cond_both (p x) _ _ (AllByRecursion P) (λ is. (all.0, all_filter p xs all.1)) (λ is. all_filter p xs all.1)

  pub all_append : (xs ys : List X) → AllByRecursion P xs → AllByRecursion P ys → AllByRecursion P (xs ++ ys)
  all_append [] ys all all' = all'
  all_append (x ∷ xs) ys all all' = (all.0, all_append xs ys all.1 all')

  pub all_weaker : (Q : X → Type 0) → ((x : X) → P x → Q x) → (xs : List X) → AllByRecursion P xs → AllByRecursion Q xs
  all_weaker Q weaker [] all = tt
  all_weaker Q weaker (x ∷ xs) all = (weaker x all.0, all_weaker Q weaker xs all.1)

pub pairs_filter : {X : Type 0} (R : X → X → Type 0) (p : X → Bool) (xs : List X) → Pairs R xs → Pairs R (filter p xs)
pairs_filter R p [] pairs = tt
pairs_filter R p (x ∷ xs) pairs =
    cond_both (p x) _ _ (Pairs R) (λ is. (all_filter (R x) p xs pairs.0, pairs_filter R p xs pairs.1)) (λ is. pairs_filter R p xs pairs.1)
