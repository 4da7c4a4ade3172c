-- Lists whose elements are marked or not.
use Rattle.std.proofs.Common.{◌≡◌, ◌⊎◌, Bool, true, false, List, [], ◌∷◌, map, inl, inr}
use Rattle.std.specs.Prelude.{All, AllPairs}
use Rattle.std.proofs.lemmas.List.Elements.{All-cons, All-head, All-nil, All-tail, All-weaker}
use Rattle.vg_repair.proofs.Sublists.{pairs_first, pairs_later}

-- the element in front, if it is marked
abbrev pub if_marked : {X : Type 0} → Bool → X → List X → List X
if_marked true x xs = x ∷ xs
if_marked false x xs = xs

-- the marked ones
abbrev pub marked : {X : Type 0} → List (Bool × X) → List X
marked [] = []
marked (e ∷ es) = if_marked e.0 e.1 (marked es)

-- all of them
abbrev pub unmarked : {X : Type 0} → List (Bool × X) → List X
unmarked {X} es = map (λ (e : Bool × X). e.1) es

module _ {X : Type 0} (P : X → Type 0) where
  -- what holds of all holds of each
  pub each_of_all : (es : List (Bool × X)) → All P (unmarked es) → All (λ (e : Bool × X). P e.1) es
  each_of_all [] all = All-nil (λ (e : Bool × X). P e.1)
  each_of_all (e ∷ es) all =
      All-cons (λ (d : Bool × X). P d.1) e es (All-head P e.1 (unmarked es) all) (each_of_all es (All-tail P e.1 (unmarked es) all))

  marked_head : (b : Bool) (x : X) (xs : List X) → All P (if_marked b x xs) → b ≡ true → P x
  marked_head true x xs all is = All-head P x xs all
  marked_head false x xs all is = absurd (cc)

  marked_tail : (b : Bool) (x : X) (xs : List X) → All P (if_marked b x xs) → All P xs
  marked_tail true x xs all = All-tail P x xs all
  marked_tail false x xs all = all

  -- and of the marked ones, of each that is
  pub each_of_marked : (es : List (Bool × X)) → All P (marked es) → All (λ (e : Bool × X). e.0 ≡ true → P e.1) es
  each_of_marked [] all = All-nil (λ (e : Bool × X). e.0 ≡ true → P e.1)
  each_of_marked (e ∷ es) all =
      All-cons (λ (d : Bool × X). d.0 ≡ true → P d.1) e es (marked_head e.0 e.1 (marked es) all)
      (each_of_marked es (marked_tail e.0 e.1 (marked es) all))

  -- what holds of all holds of the marked ones
  marked_cons : (b : Bool) (x : X) (xs : List X) → P x → All P xs → All P (if_marked b x xs)
  marked_cons true x xs p all = All-cons P x xs p all
  marked_cons false x xs p all = all

  pub all_marked : (es : List (Bool × X)) → All P (unmarked es) → All P (marked es)
  all_marked [] all = All-nil P
  all_marked (e ∷ es) all =
      marked_cons e.0 e.1 (marked es) (All-head P e.1 (unmarked es) all) (all_marked es (All-tail P e.1 (unmarked es) all))

module _ {X : Type 0} (R : X → X → Type 0) where
  abbrev pub Either : X → X → Type 0
  Either x y = R y x ⊎ R x y

  -- where two of them are in relation, each that isn't marked is with all that are
  abbrev pub WithMarked : List (Bool × X) → Bool × X → Type 0
  WithMarked es e = e.0 ≡ false → All (Either e.1) (marked es)

  first_with : (b : Bool) (x : X) (xs : List X) → All (R x) xs → b ≡ false → All (Either x) (if_marked b x xs)
  first_with true x xs all is = absurd (cc)
  first_with false x xs all is = All-weaker (R x) (Either x) (λ y r. inr r) xs all

  pub unmarked_with : (es : List (Bool × X)) → AllPairs R (unmarked es) → All (WithMarked es) es
  unmarked_with [] pairs = All-nil (WithMarked [])
  unmarked_with (e ∷ es) pairs =
      let later : All (R e.1) (unmarked es) = pairs_first R e.1 (unmarked es) pairs in
      All-cons (WithMarked (e ∷ es)) e es (first_with e.0 e.1 (marked es) (all_marked (R e.1) es later))
      (λ k d within is.
      marked_cons (Either _) e.0 e.1 (marked es) (inl (each_of_all (R e.1) es later k d within))
      (unmarked_with es (pairs_later R e.1 (unmarked es) pairs) k d within is))
