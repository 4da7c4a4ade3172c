-- Bytes that are written one piece after another.
use Rattle.std.proofs.Common.{◌≡◌, ℕ, ◌+◌, ◌-◌, List, ◌++◌, length, take, drop, Option, Some, None, refl, ap, sym, ◌∙◌, append_assoc}
use Rattle.std.proofs.Math.Seq.{take-add}
use Rattle.std.proofs.lemmas.List.{take_rest}
use Rattle.byte_streams.specs.Streams.{with_more, Writes}

-- one piece and then another
with_more-more : (written : Option (List ℕ)) (xs ys : List ℕ) → with_more (with_more written xs) ys ≡ with_more written (xs ++ ys)
with_more-more None xs ys = refl
with_more-more (Some bytes) xs ys = ap Some (append_assoc bytes xs ys)

-- after a front of the text, a front of what is left of it
pub next_front : (opened before after : Option (List ℕ)) (text : List ℕ) (done n : ℕ)
    → before ≡ with_more opened (take done text)
    → Writes before (take (length text - done) (drop done text)) n after
    → after ≡ with_more opened (take (done + n) text)
next_front opened before after text done n so_far wrote =
    wrote.bytes
    ∙ ap (λ piece. with_more before (take n piece)) (take_rest text done)
    ∙ ap (λ bytes. with_more bytes (take n (drop done text))) so_far
    ∙ with_more-more opened (take done text) (take n (drop done text))
    ∙ ap (with_more opened) (sym (take-add done n text))
