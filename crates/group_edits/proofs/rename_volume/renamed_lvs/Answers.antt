-- A row more.
use Rattle.std.proofs.Common.{sym, ◌∙◌}
use Rattle.meta_model.proofs.TableLemmas.{pushed}
use Rattle.group_edits.proofs.RenamedRows.{next_renamed}
use Rattle.group_edits.proofs.rename_volume.renamed_lvs.Goals as goal

pub loop-number-preserved : goal.loop-number-preserved
loop-number-preserved c =
    next_renamed c.args.old.now c.args.new.now c.args.lvs.now c.loop-number.all c.push.new.self c.loop-number.number _ c.in_ok-name.name _
    c.in_ok-copy.copy c.loop-number.invariant c.get.ensures
    c.in_ok-name.ensures c.in_ok-copy.ensures (pushed _ _ _ _ _ c.push.ensures (sym c.is_err.ensures.value ∙ c.if-is_err.false))
