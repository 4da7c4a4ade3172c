use Rattle.std.proofs.Common.{◌<◌, ◌+◌, ◌∷◌, ◌++◌, ℕ, List, drop, length, map, reverse, take, sym, ap, subst, ◌∙◌, arith}
use Rattle.std.proofs.lemmas.List.{drop_more}
use Rattle.std.proofs.lemmas.List.Elements.{All-get_or}
use Rattle.sector_base.specs.declared.spans.Span.{Span}
use Rattle.disk_batch.specs.Parts.{IsBlockOf, part_put}
use Rattle.disk_batch.specs.Writes.{BlockNext}
use Rattle.disk_batch.proofs.rest.Rest.take_first.Goals as goal

pub filled-requires-clause-buffer : goal.filled-requires-clause-buffer
filled-requires-clause-buffer c =
    let self = c.args.self.now in
    let part = c.index.result.now in
    let within : self.at < length self.blocks.items = let some = self.some in omega (arith, c.if-self-len.false, c.len.ensures) in
    let block : IsBlockOf (length self.text) part =
    subst (IsBlockOf (length self.text)) (sym c.index.ensures)
    (All-get_or (IsBlockOf (length self.text)) self.blocks.items self.at part within self.parts) in
    c.requires (subst (λ (l : List (Span × ℕ)). BlockNext (map (part_put self.text) l ++ reverse self.ends.items))
    (sym (drop_more self.blocks.items self.at part within ∙ ap (λ (p : Span × ℕ). p ∷ drop (self.at + 1) self.blocks.items)
    (sym c.index.ensures))) block.size)

pub returns : goal.returns
returns c =
    let self = c.args.self.now in
    let part = c.index.result.now in
    let within : self.at < length self.blocks.items = let some = self.some in omega (arith, c.if-self-len.false, c.len.ensures) in
    let block : IsBlockOf (length self.text) part =
    subst (IsBlockOf (length self.text)) (sym c.index.ensures)
    (All-get_or (IsBlockOf (length self.text)) self.blocks.items self.at part within self.parts) in
    let rest = drop (self.at + 1) self.blocks.items in
    ap (λ (l : List (Span × ℕ)). map (part_put self.text) l ++ reverse self.ends.items)
    (drop_more self.blocks.items self.at part within ∙ ap (λ (p : Span × ℕ). p ∷ rest) (sym c.index.ensures))
    ∙ ap (λ (sectors : List (List ℕ)). (part.0, sectors) ∷ (map (part_put self.text) rest ++ reverse self.ends.items))
    (ap (λ (n : ℕ). take n (drop part.1 self.text)) block.size ∙ sym c.filled.ensures)
