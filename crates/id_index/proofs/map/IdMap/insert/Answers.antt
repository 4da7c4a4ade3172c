use Rattle.std.proofs.Common.{ap, ◌∙◌}
use Rattle.std.specs.FinMap as map
use Rattle.id_index.proofs.Entries.{insert-is}
use Rattle.id_index.proofs.map.IdMap.insert.Goals as goal

pub returns-clause-ok : goal.returns-clause-ok
returns-clause-ok c =
    insert-is c.self.inside.numbers.entries c.insert.new.self.entries c.plain.result c.args.number c.in_ok-insert.ensures.updates.0
    ∙ ap (λ m. map.insert m c.plain.result c.args.number) c.self.view_is
    ∙ ap (λ id. map.insert c.args.self.now id c.args.number) c.plain.ensures.value
