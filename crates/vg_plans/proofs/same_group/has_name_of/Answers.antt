use Rattle.std.proofs.Common.{ℕ, List, ap, ◌∙◌}
use Rattle.std.specs.Str.{bytes_eq}
use Rattle.vg_plans.proofs.same_group.has_name_of.Goals as goal

pub returns : goal.returns
returns c =
    c.eq.ensures
    ∙ ap (λ (l : List ℕ). bytes_eq l c.as_bytes-2.result.now) c.as_bytes.ensures
    ∙ ap (bytes_eq c.args.said.now.name) c.as_bytes-2.ensures
