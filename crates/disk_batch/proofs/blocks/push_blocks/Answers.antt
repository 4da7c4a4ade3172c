use Rattle.std.proofs.Common.{◌≡◌, ◌+◌, ◌*◌, ◌++◌, ◌∷◌, [], ℕ, List, map, sym, ap, ◌∙◌, arith, append_assoc}
use Rattle.std.specs.List.{range_with_len}
use Rattle.std.proofs.lemmas.List.FromFn.{map-range_with_len_more}
use Rattle.sector_base.specs.declared.spans.Span.{Span}
use Rattle.disk_batch.specs.Parts.{piece_part}
use Rattle.disk_batch.specs.Writes.{block_size}
use Rattle.disk_batch.proofs.blocks.push_blocks.Goals as goal

pub loop-k-preserved : goal.loop-k-preserved
loop-k-preserved c =
    let k = c.loop-k.k in
    let f : ℕ → Span × ℕ = λ n. piece_part (c.args.span, c.args.from) (block_size * n) block_size in
    let old = c.args.blocks.now.items in
    let so_far = map f (range_with_len 0 k) in
    let new : Span × ℕ = (c.piece.result, c.args.from + block_size * k) in
    let is : new ≡ f k = ap (λ (span : Span). (span, c.args.from + block_size * k)) c.piece.ensures in
    c.in_ok-push.ensures.items ∙ ap (λ (l : List (Span × ℕ)). l ++ new ∷ []) c.loop-k.invariant ∙ append_assoc old so_far (new ∷ [])
    ∙ ap (λ (part : Span × ℕ). old ++ (so_far ++ part ∷ [])) is
    ∙ ap (λ (l : List (Span × ℕ)). old ++ l) (sym (map-range_with_len_more f 0 k k (omega arith)))
