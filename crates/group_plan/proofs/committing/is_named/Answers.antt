use Rattle.std.proofs.Common.{ℕ, List, ap, ◌∙◌}
use Rattle.std.specs.Str.{bytes_eq}
use Rattle.group_plan.proofs.committing.is_named.Goals as goal

pub returns : goal.returns
returns c =
    c.eq.ensures
    ∙ ap (λ (l : List ℕ). bytes_eq l c.as_bytes-2.result.now) c.as_bytes.ensures
    ∙ ap (bytes_eq c.args.group.now.name) c.as_bytes-2.ensures
