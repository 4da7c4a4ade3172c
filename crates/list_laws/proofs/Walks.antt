-- One element more of a walk along a list.
use Rattle.std.proofs.Common.{◌≡◌, ℕ, zero, suc, ◌+◌, ◌<◌, Bool, true, false, ◌||◌, List, [], ◌∷◌, length, drop, get_or, Some, sym, ap, ◌∙◌}
use Rattle.std.proofs.Common.{arith, add-one, drop-cons}
use Rattle.std.specs.Prelude.{slice_get}
use Rattle.std.specs.List.{list_any}
use Rattle.std.proofs.lemmas.Option.{same_Some}

-- the element at a place, and what is behind it
pub next_read : {X : Type 0} (xs : List X) (i : ℕ) (x : X) → i < length xs → x ≡ get_or xs i x → drop i xs ≡ x ∷ drop (i + 1) xs
next_read xs i x within is = drop-cons xs i x within ∙ (λ j. sym is j ∷ drop (sym (add-one i) j) xs)

pub next_at : {X : Type 0} (xs : List X) (i : ℕ) (d : X) → i < length xs → drop i xs ≡ get_or xs i d ∷ drop (i + 1) xs
next_at xs i d within = drop-cons xs i d within ∙ ap (λ n. get_or xs i d ∷ drop n xs) (sym (add-one i))

pub next_got : {X : Type 0} (xs : List X) (i : ℕ) (x : X) → slice_get xs i ≡ Some x → drop i xs ≡ x ∷ drop (i + 1) xs
next_got [] i x got = cc
next_got (y ∷ ys) zero x got = ap (λ z. z ∷ ys) (same_Some y x got)
next_got (y ∷ ys) (suc i) x got = next_got ys i x got ∙ ap (λ n. x ∷ drop n (y ∷ ys)) (let e : suc (i + 1) ≡ suc i + 1 = omega arith in e)

-- whether one passes a test, from here on
pub any_here : {X : Type 0} (test : X → Bool) (xs : List X) (i : ℕ) (x : X) (whole : Bool) → slice_get xs i ≡ Some x
    → list_any test (drop i xs) ≡ whole → test x ≡ true → true ≡ whole
any_here test xs i x whole got is passes =
    sym (ap (λ (b : Bool). b || list_any test (drop (i + 1) xs)) passes) ∙ sym (ap (list_any test) (next_got xs i x got)) ∙ is

pub any_past : {X : Type 0} (test : X → Bool) (xs : List X) (i : ℕ) (x : X) (whole : Bool) → slice_get xs i ≡ Some x
    → list_any test (drop i xs) ≡ whole → test x ≡ false
    → list_any test (drop (i + 1) xs) ≡ whole
any_past test xs i x whole got is fails =
    sym (ap (λ (b : Bool). b || list_any test (drop (i + 1) xs)) fails) ∙ sym (ap (list_any test) (next_got xs i x got)) ∙ is
