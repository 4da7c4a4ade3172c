-- Rows that a loop puts last: the front without one of them, and the front by a function.
use Rattle.std.proofs.Common.{◌≡◌, ◌≢◌, ℕ, zero, suc, ◌+◌, List, [], ◌∷◌, ◌++◌, map, take, Some, sym, ap, ◌∙◌, refl, arith}
use Rattle.std.specs.Prelude.{slice_get}
use Rattle.std.specs.List.{remove}
use Rattle.std.proofs.lemmas.List.{map-append}
use Rattle.std.proofs.lemmas.Option.{same_Some}
use Rattle.meta_model.proofs.TableLemmas.{take-next}

-- ---- without one

remove_none : {X : Type 0} (removed : ℕ) → remove {X = X} [] removed ≡ []
remove_none zero = refl
remove_none (suc removed) = refl

-- another one goes last
without_next : {X : Type 0} (xs : List X) (removed n : ℕ) (x : X) → n ≢ removed → slice_get xs n ≡ Some x
    → remove (take (suc n) xs) removed ≡ remove (take n xs) removed ++ x ∷ []
without_next [] removed n x other is = absurd cc
without_next (y ∷ ys) zero zero x other is = absurd (other refl)
without_next (y ∷ ys) (suc removed) zero x other is =
    let same : y ≡ x = same_Some y x is in
    ap (λ zs. y ∷ zs) (remove_none removed) ∙ ap (λ z. z ∷ []) same ∙ sym (ap (λ zs. zs ++ x ∷ []) (remove_none (suc removed)))
without_next (y ∷ ys) zero (suc n) x other is = ap (λ (k : ℕ). take k ys) (let e : suc n ≡ n + 1 = omega arith in e) ∙ take-next ys n x is
without_next (y ∷ ys) (suc removed) (suc n) x other is = ap (λ zs. y ∷ zs) (without_next ys removed n x (λ same. other (ap suc same)) is)

-- it is passed over
without_same : {X : Type 0} (xs : List X) (removed : ℕ) → remove (take (suc removed) xs) removed ≡ remove (take removed xs) removed
without_same [] zero = refl
without_same [] (suc removed) = refl
without_same (y ∷ ys) zero = refl
without_same (y ∷ ys) (suc removed) = ap (λ zs. y ∷ zs) (without_same ys removed)

pub passed_over : {X : Type 0} (xs rest : List X) (place removed : ℕ) → place ≡ removed → rest ≡ remove (take place xs) removed
    → rest ≡ remove (take (place + 1) xs) removed
passed_over xs rest place removed same is =
    let next : suc removed ≡ place + 1 = omega (arith, same) in
    is ∙ ap (λ (n : ℕ). remove (take n xs) removed) same ∙ sym (without_same xs removed) ∙ ap (λ (n : ℕ). remove (take n xs) removed) next

pub put_last : {X : Type 0} (xs rest new : List X) (place removed : ℕ) (x : X) → place ≢ removed → rest ≡ remove (take place xs) removed
    → slice_get xs place ≡ Some x → new ≡ rest ++ x ∷ [] → new ≡ remove (take (place + 1) xs) removed
put_last xs rest new place removed x other is there last =
    let next : suc place ≡ place + 1 = omega arith in
    last ∙ ap (λ ys. ys ++ x ∷ []) is ∙ sym (without_next xs removed place x other there) ∙ ap (λ (n : ℕ). remove (take n xs) removed) next

-- ---- by a function

pub mapped_last : {X Y : Type 0} (f : X → Y) (xs : List X) (all new : List Y) (place : ℕ) (x : X) (y : Y) → all ≡ map f (take place xs)
    → slice_get xs place ≡ Some x → y ≡ f x → new ≡ all ++ y ∷ [] → new ≡ map f (take (place + 1) xs)
mapped_last f xs all new place x y is there made last =
    last ∙ (λ i. is i ++ made i ∷ []) ∙ sym (map-append f (take place xs) (x ∷ [])) ∙ ap (map f) (sym (take-next xs place x there))
