use Rattle.std.proofs.Common.{◌≡◌, ◌+◌, ◌*◌, ◌-◌, drop, length, map, reverse, sum_by, arith, ◌∙◌, ap, ℕ}
use Rattle.std.proofs.lemmas.List.{length-drop}
use Rattle.std.proofs.lemmas.List.Elements.{All-drop}
use Rattle.std.proofs.lemmas.List.Sums.{sum_by-append}
use Rattle.disk_batch.specs.Parts.{IsBlockOf, part_put}
use Rattle.disk_batch.specs.Rest.{rest_of}
use Rattle.disk_batch.specs.Writes.{block_size, span_count}
use Rattle.disk_batch.proofs.PartPuts.{blocks_sum, sum_reversed}
use Rattle.disk_batch.proofs.rest.Rest.needs.Goals as goal

pub returns-clause-sectors : goal.returns-clause-sectors
returns-clause-sectors c =
    let self = c.args.self.now in
    let blocks = drop self.at self.blocks.items in
    let all : sum_by span_count (rest_of self) ≡ block_size * length blocks + sum_by span_count self.ends.items =
    sum_by-append span_count (map (part_put self.text) blocks) (reverse self.ends.items)
    ∙ ap (λ (n : ℕ). n + sum_by span_count (reverse self.ends.items))
    (blocks_sum self.text (length self.text) blocks (All-drop (IsBlockOf (length self.text)) self.at self.blocks.items self.parts))
    ∙ ap (λ (n : ℕ). block_size * length blocks + n) (sum_reversed span_count self.ends.items) in
    let ends : sum_by span_count c.deref.result.now ≡ sum_by span_count self.ends.items = ap (sum_by span_count) c.deref.ensures.value in
    let each = ap (λ (n : ℕ). (c.len.result - self.at) * n) c.from.ensures in
    omega (arith, all, ends, each, length-drop self.at self.blocks.items, self.some)
