use Rattle.std.proofs.Common.{◌<◌, ◌%◌, ℕ, List, [], Option, None, length, arith, ap, sym, ◌∙◌}
use Rattle.std.proofs.lemmas.List.{get_or_default}
use Rattle.dev_shelf.proofs.mem_shelf.crash_image.choose.Goals as goal

pub returns-clause-is_value : goal.returns-clause-is_value
returns-clause-is_value c =
    let all = c.args.values.now.items in
    let k : ℕ = c.if-len-gt1.number % c.len-2.result in
    let lt : k < length all = omega (arith, c.args.values.now.ok.0) in
    (k, lt, ap (λ (v : Option ℕ × List ℕ). v.1) (get_or_default all k (None, []) c.index.result.now lt ∙ sym c.index.ensures))
