use Rattle.std.proofs.Common.{nat_eq, ap, ◌∙◌}
use Rattle.std.specs.Cmp.Lexicographic.{pointwise}
use Rattle.std.proofs.lemmas.Map.Made.{is_some-lookup}
use Rattle.lvm_name.specs.Names.{is_among}
use Rattle.meta_model.specs.Tables.{names_of}
use Rattle.meta_model.proofs.table.Table.contains.Goals as goal

pub returns : goal.returns
returns g c =
    c.contains_key.ensures ∙ is_some-lookup (pointwise nat_eq c.args.name.now) c.self.inside.rows.entries
    ∙ ap (λ rows. is_among (names_of rows) c.args.name.now) c.self.view_is
