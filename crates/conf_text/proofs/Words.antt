-- The word at hand stands in the text just before the place at hand.
use Rattle.std.proofs.Common.{◌≡◌, ℕ, ◌+◌, ◌-◌, ◌≤◌, List, [], ◌∷◌, ◌++◌, length, take, drop, refl, sym, ap, subst, ◌∙◌, append_assoc}
use Rattle.std.proofs.Common.{length-append, arith}
use Rattle.std.proofs.lemmas.List.{take-append-drop, length-take}
use Rattle.conf_text.specs.ReaderViews.{EndsIn, IsWordAt}

-- a list that begins so has it at that place
in_middle : (x w rest : List ℕ) → take (length w) (drop (length x) (x ++ (w ++ rest))) ≡ w
in_middle [] [] rest = refl
in_middle [] (b ∷ w) rest = ap (λ y. b ∷ y) (in_middle [] w rest)
in_middle (a ∷ x) w rest = in_middle x w rest

pub word_at : (text w : List ℕ) (at from : ℕ) → at ≤ length text → from ≡ at - length w → EndsIn (take at text) w → IsWordAt text from w
word_at text w at from inside is (x, e) =
    let sizes : length x + length w ≡ at = omega (arith, ap length e, length-append x w, length-take at text, inside) in
    let same : length x ≡ from = omega (arith, sizes, is) in
    let whole : text ≡ x ++ (w ++ drop at text) =
    sym (take-append-drop at text) ∙ ap (λ y. y ++ drop at text) e ∙ append_assoc x w (drop at text) in (
      omega (arith, sizes, same, inside),
      subst (λ n. take (length w) (drop n text) ≡ w) same
          (ap (λ y. take (length w) (drop (length x) y)) whole ∙ in_middle x w (drop at text)),
    )
