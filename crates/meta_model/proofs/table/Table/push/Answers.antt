-- A name that isn't among the keys goes last.
use Rattle.std.proofs.Common.{◌≡◌, ◌++◌, ◌∷◌, [], false, sym, ap, ◌∙◌}
use Rattle.lvm_name.specs.Names.{is_among}
use Rattle.meta_model.specs.Tables.{names_of}
use Rattle.meta_model.proofs.TableLemmas.{insert_entry-last}
use Rattle.meta_model.proofs.table.Table.push.Goals as goal

pub returns-in-Ok : goal.returns-in-Ok
returns-in-Ok g c =
    let is_new : is_among (names_of c.args.self.now) c.args.name ≡ false = sym c.contains.ensures ∙ c.if-contains.false in
    let is_new_inside : is_among (names_of c.self.inside.rows.entries) c.args.name ≡ false =
    ap (λ rows. is_among (names_of rows) c.args.name) c.self.view_is ∙ is_new in (
      c.in-Ok.ensures.entries ∙ insert_entry-last c.self.inside.rows c.args.name c.args.row is_new_inside
          ∙ ap (λ rows. rows ++ (c.args.name, c.args.row) ∷ []) c.self.view_is,
      is_new,
    )
