-- A row more.
use Rattle.std.proofs.Common.{sym, ◌∙◌}
use Rattle.meta_model.proofs.TableLemmas.{pushed}
use Rattle.group_edits.proofs.ShortRows.{next_short}
use Rattle.group_edits.proofs.shorten_volume.shortened_lvs.Goals as goal

pub loop-number-preserved : goal.loop-number-preserved
loop-number-preserved c =
    next_short c.args.name.now c.args.left c.args.lvs.now c.loop-number.all c.push.new.self c.loop-number.number _ c.in_ok-try_copy.field-0
    _ c.in_ok-copy.copy c.loop-number.invariant c.get.ensures
    c.in_ok-try_copy.ensures c.in_ok-copy.ensures (pushed _ _ _ _ _ c.push.ensures (sym c.is_err.ensures.value ∙ c.if-is_err.false))
