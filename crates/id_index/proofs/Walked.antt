-- A table is walked from its end.
use Rattle.std.proofs.Common.{◌≡◌, ℕ, zero, suc, ◌+◌, List, [], ◌∷◌, drop, Some, ap, ◌∙◌, arith}
use Rattle.std.specs.Prelude.{slice_get}
use Rattle.std.proofs.lemmas.Option.{same_Some}

-- the row before those that were walked, and those
pub row_more : {X : Type 0} (xs : List X) (i : ℕ) (x : X) → slice_get xs i ≡ Some x → drop i xs ≡ x ∷ drop (i + 1) xs
row_more [] i x got = cc
row_more (y ∷ ys) zero x got = ap (λ z. z ∷ ys) (same_Some y x got)
row_more (y ∷ ys) (suc i) x got = row_more ys i x got ∙ ap (λ n. x ∷ drop n (y ∷ ys)) (let e : suc (i + 1) ≡ suc i + 1 = omega arith in e)
