use Rattle.std.proofs.Common.{ap, ◌∙◌}
use Rattle.std.specs.Cmp.Lexicographic.{slice_cmp}
use Rattle.std.specs.Ordering.{eq_by_cmp, nat_cmp}
use Rattle.std.specs.Map.{lookup}
use Rattle.std.specs.FinMap as map
use Rattle.id_index.proofs.Entries.{lookup-is}
use Rattle.id_index.proofs.map.IdMap.get.Goals as goal

pub returns : goal.returns
returns c =
    c.copied.ensures ∙ c.get.ensures.value
    ∙ ap (λ id. lookup (eq_by_cmp (slice_cmp nat_cmp) id) c.self.inside.numbers.entries) c.plain.ensures.value
    ∙ lookup-is c.self.inside.numbers.entries c.args.id.now
    ∙ ap (λ m. map.get m c.args.id.now) c.self.view_is
