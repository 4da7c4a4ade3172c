-- What holds of the parts of two rows, where these parts are the same.
use Rattle.std.proofs.Common.{◌≡◌, List, [], ◌∷◌, ◌++◌, get_or, map, All, AllPairs, sym, ap, subst, ◌∙◌, arith}
use Rattle.std.proofs.lemmas.List.{get_or-map, length-map, map-append, append_assoc}
use Rattle.std.proofs.lemmas.List.Elements.{All-map}

module _ {A B : Type 0} (f : A → B) (xs : List A) where
  all_from_map : (P : B → Type 0) → All P (map f xs) → All (λ x. P (f x)) xs
  all_from_map P all k d within = subst P (get_or-map f xs k d (f d) within) (all k (f d) (omega (arith, within, length-map xs f)))

  pairs_from_map : (R : B → B → Type 0) → AllPairs R (map f xs) → AllPairs (λ x y. R (f x) (f y)) xs
  pairs_from_map R all i j d lt within =
      subst (λ a. R a (f (get_or xs j d))) (get_or-map f xs i d (f d) (omega (arith, lt, within)))
      (subst (λ b. R (get_or (map f xs) i (f d)) b) (get_or-map f xs j d (f d) within)
      (all i j (f d) lt (omega (arith, within, length-map xs f))))

  -- by the parts, which are another row's
  pub all_by_parts : {C : Type 0} (h : C → B) (ys : List C) → map f xs ≡ map h ys
      → (P : B → Type 0) → All (λ y. P (h y)) ys → All (λ x. P (f x)) xs
  all_by_parts h ys same P all = all_from_map P (subst (All P) (sym same) (All-map P h ys all))

  pub pairs_by_parts : (ys : List B) → map f xs ≡ ys → (R : B → B → Type 0) → AllPairs R ys → AllPairs (λ x y. R (f x) (f y)) xs
  pairs_by_parts ys same R all = pairs_from_map R (subst (AllPairs R) (sym same) all)

-- one element more is taken from the second row and put to the first
pub part_moved : {A B C : Type 0} (f : A → B) (h : C → B) (xs : List A) (x : A) (rest ys : List C) (y : C) (whole : List B) → f x ≡ h y
    → rest ≡ y ∷ ys → map f xs ++ map h rest ≡ whole → map f (xs ++ x ∷ []) ++ map h ys ≡ whole
part_moved f h xs x rest ys y whole same is was =
    ap (λ l. l ++ map h ys) (map-append f xs (x ∷ []))
    ∙ append_assoc (map f xs) (f x ∷ []) (map h ys)
    ∙ ap (λ b. map f xs ++ b ∷ map h ys) same
    ∙ sym (ap (λ l. map f xs ++ map h l) is)
    ∙ was
