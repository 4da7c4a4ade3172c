-- What a test of lists and numbers says.
use Rattle.std.proofs.Common.{◌≡◌, ◌<◌, ℕ, Bool, true, false, ◌&&◌, ◌||◌, List, [], ◌∷◌, length, get_or, refl, sym, ◌∙◌}
use Rattle.std.specs.List.{list_any}
use Rattle.std.proofs.lemmas.List.Folds.{list_any_at}

-- both of two tests passed
pub and_left : (a b : Bool) → (a && b) ≡ true → a ≡ true
and_left true b h = refl
and_left false b h = h

pub and_right : (a b : Bool) → (a && b) ≡ true → b ≡ true
and_right true b h = h
and_right false b h = cc

-- where no item passes, each fails
pub none_at : {X : Type 0} (p : X → Bool) (xs : List X) → list_any p xs ≡ false → (k : ℕ) (d : X) → k < length xs
    → p (get_or xs k d) ≡ false
none_at p xs e k d lt =
    elim (p (get_or xs k d)) as (λ b. p (get_or xs k d) ≡ b → b ≡ false) [
      | true ↦ λ h. sym (list_any_at p xs k d lt h) ∙ e
      | false ↦ λ h. refl
    ] refl

-- where an item passes two tests, one passes the second
pub any_second : {X : Type 0} (p q : X → Bool) (xs : List X) → list_any (λ x. p x && q x) xs ≡ true → list_any q xs ≡ true
any_second p q [] e = e
any_second p q (x ∷ xs) e =
    elim (q x) as (λ b. q x ≡ b → ((p x && b) || list_any (λ y. p y && q y) xs) ≡ true → (b || list_any q xs) ≡ true) [
      | true ↦ λ s h. refl
      | false ↦ λ s. elim (p x) as (λ a. ((a && false) || list_any (λ y. p y && q y) xs) ≡ true → list_any q xs ≡ true) [
        | true ↦ λ h. any_second p q xs h
        | false ↦ λ h. any_second p q xs h
      ]
    ] refl e
