-- Lists and strings, element by element.
use Rattle.std.proofs.Common.{◌≡◌, ℕ, zero, suc, ◌+◌, ◌<◌, List, [], ◌∷◌, ◌++◌, length, get_or, map, take, refl, sym, ap, ◌∙◌, append_assoc}
use Rattle.std.proofs.Common.{arith}
use Rattle.std.proofs.lemmas.List.{take_more, append-nil, length-append}
use Rattle.std.proofs.lemmas.List.Concat.{flat_map_single}
use Rattle.std.proofs.lemmas.Grind.{flat_map-append}
use Rattle.std.specs.Prelude.{flat_map}
use Rattle.conf_text.specs.Entries.{Scalar, Many, Assign}
use Rattle.conf_text.specs.Grammar.{escaped}
use Rattle.conf_text.specs.Lists.{list_begun, list_added}
use Rattle.conf_text.proofs.Standing.{escaped_append}
use Rattle.conf_text.specs.Printed.{printed_list, printed}

-- one byte more of a string
pub escaped_more : (xs : List ℕ) (at : ℕ) → at < length xs
    → escaped (take at xs) ++ escaped (get_or xs at 0 ∷ []) ≡ escaped (take (at + 1) xs)
escaped_more xs at within = sym (ap escaped (take_more xs at 0 within) ∙ escaped_append (take at xs) (get_or xs at 0 ∷ []))

-- elements that a list has already, and more
printed_list-append : (xs ys : List Scalar) → 0 < length xs → 0 < length ys
    → printed_list (xs ++ ys) ≡ printed_list xs ++ 44 ∷ 32 ∷ printed_list ys
printed_list-append [] ys some more = absurd (omega arith)
printed_list-append (s ∷ []) [] some more = absurd (omega arith)
printed_list-append (s ∷ []) (t ∷ ys) some more = refl
printed_list-append (s ∷ u ∷ xs) ys some more = rw (printed_list-append (u ∷ xs) ys (omega arith) more) (simp append_assoc refl)

-- what stands before the elements, and the elements
pub added_split : (before : ℕ) (scalars : List Scalar) → list_added before [] ++ printed_list scalars ≡ list_added before scalars
added_split zero scalars = refl
added_split (suc before) scalars = refl

list_more : (key : List ℕ) (n : ℕ) (before added : List Scalar) → (n ≡ 0 → before ≡ []) → (0 < n → 0 < length before) → 0 < length added
    → list_begun key before ++ list_added n added ≡ list_begun key (before ++ added)
list_more key zero before added none some more = rw (none refl) (simp append_assoc refl)
list_more key (suc n) before added none some more = rw (printed_list-append before added (some (omega arith)) more) (simp append_assoc refl)

module _ {X : Type 0} (f : X → List Scalar) (some : (x : X) → 0 < length (f x)) where
  some_elements : (at : ℕ) (xs : List X) → 0 < at → 0 < length xs → 0 < length (flat_map f (take at xs))
  some_elements zero xs h k = absurd (omega arith)
  some_elements (suc at) [] h k = absurd (omega arith)
  some_elements (suc at) (x ∷ xs) h k = omega (arith, some x, length-append (f x) (flat_map f (take at xs)))

  -- the elements of one thing more, of a list of things with some elements each
  pub pieces_more : (key : List ℕ) (xs : List X) (at : ℕ) (x d : X) → at < length xs → x ≡ get_or xs at d
      → list_begun key (flat_map f (take at xs)) ++ list_added at (f x) ≡ list_begun key (flat_map f (take (at + 1) xs))
  pieces_more key xs at x d within is =
      let longer : take (at + 1) xs ≡ take at xs ++ (x ∷ []) = take_more xs at d within ∙ ap (λ y. take at xs ++ (y ∷ [])) (sym is) in
      list_more key at (flat_map f (take at xs)) (f x) (λ e. rw e refl) (λ h. some_elements at xs h (omega arith)) (some x)
      ∙ ap (list_begun key) (sym (ap (flat_map f) longer ∙ flat_map-append f (take at xs) (x ∷ [])
      ∙ ap (λ ys. flat_map f (take at xs) ++ ys) (append-nil (f x))))

-- one element more, of a list of things with one element each
pub elements_more : {X : Type 0} (f : X → Scalar) (key : List ℕ) (xs : List X) (at : ℕ) (x d : X) → at < length xs → x ≡ get_or xs at d
    → list_begun key (map f (take at xs)) ++ list_added at (f x ∷ []) ≡ list_begun key (map f (take (at + 1) xs))
elements_more f key xs at x d within is =
    ap (λ ss. list_begun key ss ++ list_added at (f x ∷ [])) (sym (flat_map_single f (take at xs)))
    ∙ pieces_more (λ y. f y ∷ []) (λ y. omega arith) key xs at x d within is
    ∙ ap (list_begun key) (flat_map_single f (take (at + 1) xs))

-- a whole list, as it is printed
pub list_ended : (key : List ℕ) (scalars : List Scalar) → list_begun key scalars ++ 93 ∷ 10 ∷ [] ≡ printed (Assign key (Many scalars) ∷ [])
list_ended key scalars = simp append_assoc refl
