-- What holds of all that pass a test.
use Rattle.std.proofs.Common.{◌≡◌, Bool, true, false, cond, List, [], ◌∷◌}
use Rattle.std.specs.Prelude.{All, filter}
use Rattle.std.proofs.lemmas.List.Elements.{All-cons, All-head, All-nil, All-tail}

module _ {X : Type 0} (P : X → Type 0) where
  module _ (q : X → Bool) where
    filtered_head : (b : Bool) (x : X) (xs : List X) → All P (cond b (x ∷ xs) xs) → b ≡ true → P x
    filtered_head true x xs all is = All-head P x xs all
    filtered_head false x xs all is = absurd (cc)

    filtered_tail : (b : Bool) (x : X) (xs : List X) → All P (cond b (x ∷ xs) xs) → All P xs
    filtered_tail true x xs all = All-tail P x xs all
    filtered_tail false x xs all = all

    -- and of those that pass, of each that does
    pub each_of_filtered : (xs : List X) → All P (filter q xs) → All (λ (x : X). q x ≡ true → P x) xs
    each_of_filtered [] all = All-nil (λ (x : X). q x ≡ true → P x)
    each_of_filtered (x ∷ xs) all =
        All-cons (λ (y : X). q y ≡ true → P y) x xs (filtered_head (q x) x (filter q xs) all)
        (each_of_filtered xs (filtered_tail (q x) x (filter q xs) all))
