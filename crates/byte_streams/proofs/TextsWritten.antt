-- Texts that are written one after another.
use Rattle.std.proofs.Common.{◌≡◌, ℕ, ◌+◌, Bool, true, false, List, ◌++◌, length, take, Option, Some, None, refl, ap, sym, subst, ◌∙◌}
use Rattle.std.proofs.Common.{arith, append_assoc, length-append}
use Rattle.std.proofs.lemmas.List.{take-append-le}
use Rattle.std.proofs.Math.Seq.{take-append-add}
use Rattle.byte_streams.specs.Streams.{HasRisen, WritesText, with_more}

with_more-more : (written : Option (List ℕ)) (xs ys : List ℕ) → with_more (with_more written xs) ys ≡ with_more written (xs ++ ys)
with_more-more None xs ys = refl
with_more-more (Some bytes) xs ys = ap Some (append_assoc bytes xs ys)

-- a front of a text is one of a longer text
pub failed_before : (b0 b1 : Option (List ℕ)) (f0 f1 : ℕ) (text more : List ℕ) → WritesText b0 f0 text false b1 f1
    → WritesText b0 f0 (text ++ more) false b1 f1
failed_before b0 b1 f0 f1 text more ((n, lt, is), risen) =
    ((n, omega (arith, lt, length-append text more), is ∙ ap (with_more b0) (sym (take-append-le n text more (omega (arith, lt))))), risen)

-- one text whole, and then another
pub written_both : (b0 b1 b2 : Option (List ℕ)) (f0 f1 f2 : ℕ) (text more : List ℕ) (well : Bool)
    → WritesText b0 f0 text true b1 f1 → WritesText b1 f1 more well b2 f2 → WritesText b0 f0 (text ++ more) well b2 f2
written_both b0 b1 b2 f0 f1 f2 text more true (first, same) (second, again) =
    (second ∙ ap (λ (b : Option (List ℕ)). with_more b more) first ∙ with_more-more b0 text more, again ∙ same)
written_both b0 b1 b2 f0 f1 f2 text more false (first, same) ((n, lt, is), risen) = (
  (
    length text + n,
    omega (arith, lt, length-append text more),
    is ∙ ap (λ (b : Option (List ℕ)). with_more b (take n more)) first ∙ with_more-more b0 text (take n more)
        ∙ ap (with_more b0) (sym (take-append-add text more n)),
  ),
  subst (λ (f : ℕ). HasRisen f f2) same risen,
)
