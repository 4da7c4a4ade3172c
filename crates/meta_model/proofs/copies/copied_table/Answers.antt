-- A copied row goes last.
use Rattle.std.proofs.Common.{sym, ◌∙◌}
use Rattle.meta_model.proofs.TableLemmas.{pushed, take-next}
use Rattle.meta_model.proofs.copies.copied_table.Goals as goal

pub loop-number-preserved : goal.loop-number-preserved
loop-number-preserved g c =
    let last = pushed _ _ _ _ _ c.push.ensures (sym c.is_err.ensures.value ∙ c.if-is_err.false) in
    let next = take-next c.args.table.now c.loop-number.number _ c.get.ensures in
    cc (last, next, c.loop-number.invariant, c.in_ok-name.ensures, c.in_ok-row.ensures)
