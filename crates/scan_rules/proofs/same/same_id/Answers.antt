use Rattle.std.proofs.Common.{ℕ, List, ap, ◌∙◌}
use Rattle.std.specs.Str.{bytes_eq}
use Rattle.scan_rules.proofs.same.same_id.Goals as goal

pub returns : goal.returns
returns c =
    c.eq.ensures
    ∙ ap (λ (l : List ℕ). bytes_eq l c.plain-2.result) c.plain.ensures.value
    ∙ ap (bytes_eq c.args.a.now) c.plain-2.ensures.value
