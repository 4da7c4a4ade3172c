-- Lists of words, seen as the bytes that they refer to.
use Rattle.std.proofs.Common.{◌≡◌, ℕ, ◌||◌, ◌&&◌, ◌==◌, nat_eq, List, [], ◌∷◌, map, refl, ap, ◌∙◌, arith, Bor}
use Rattle.std.proofs.lemmas.Bool.Decides.{nat_tests}
use Rattle.std.specs.List.{list_any}
use Rattle.std.specs.Cmp.Lexicographic.{pointwise}
use Rattle.lvm_name.specs.Names.{is_among}
use Rattle.meta_read.specs.Reading.{as_bytes}

nat_eq-flip : (a b : ℕ) → (a == b) ≡ (b == a)
nat_eq-flip a b = grind (arith, nat_tests)

-- texts are compared in either order
pub pointwise-flip : (xs ys : List ℕ) → pointwise nat_eq xs ys ≡ pointwise nat_eq ys xs
pointwise-flip [] [] = refl
pointwise-flip [] (y ∷ ys) = refl
pointwise-flip (x ∷ xs) [] = refl
pointwise-flip (x ∷ xs) (y ∷ ys) = ap (λ b. b && pointwise nat_eq xs ys) (nat_eq-flip x y) ∙ ap (λ b. (y == x) && b) (pointwise-flip xs ys)

-- the word is one of those that are referred to
pub list_any-among : (words : List (Bor (List ℕ))) (word : List ℕ)
    → list_any (λ other. pointwise nat_eq other.now word) words ≡ is_among (map as_bytes words) word
list_any-among [] word = refl
list_any-among (other ∷ others) word =
    ap (λ b. b || list_any (λ other. pointwise nat_eq other.now word) others) (pointwise-flip other.now word)
    ∙ ap (λ b. pointwise nat_eq word other.now || b) (list_any-among others word)
