use Rattle.std.proofs.Common.{sym, ap, ◌∙◌}
use Rattle.std.specs.Prelude.{not}
use Rattle.meta_model.specs.Tables.{names_of}
use Rattle.group_edits.proofs.FreeNames.{among_first, among_last}
use Rattle.group_edits.proofs.naming.is_free.Goals as goal

pub returns-then-in_pvs : goal.returns-then-in_pvs
returns-then-in_pvs c =
    ap not (sym (among_first (names_of c.args.pvs.now) (names_of c.args.lvs.now) c.args.name.now
    (sym c.contains-in_pvs.ensures ∙ c.if-in_pvs.true)))

pub returns : goal.returns
returns c =
    ap not (c.contains-in_lvs.ensures ∙ sym (among_last (names_of c.args.pvs.now) (names_of c.args.lvs.now) c.args.name.now
    (sym c.contains-in_pvs.ensures ∙ c.if-in_pvs.false)))
