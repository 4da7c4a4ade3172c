use Rattle.std.proofs.Common.{◌∙◌, sym}
use Rattle.meta_model.proofs.TableLemmas.{pushed}
use Rattle.group_edits.proofs.Marking.{rows_more, rows_same}
use Rattle.group_edits.specs.Marking.{unmarked}
use Rattle.group_edits.proofs.removing.rows_after.Goals as goal
use Rattle.group_edits.proofs.removing.rows_after.Goals.{then-stays+in_ok-name+in_ok-lv+else-is_err, else-stays}

pub loop-number-preserved : goal.loop-number-preserved
loop-number-preserved c =
    elim c.if-stays.branch [
      | then-stays+in_ok-name+in_ok-lv+else-is_err w ↦
          rows_more (unmarked c.args.numbers.now) c.args.lvs.now c.loop-number.rest c.if-stays.rest c.loop-number.number _ w.in_ok-name.name
          w.in_ok-lv.lv c.loop-number.invariant c.get.ensures (sym c.stays.ensures ∙ w.if-stays.true)
          w.in_ok-name.ensures w.in_ok-lv.ensures (w.rest-is
          ∙ pushed _ _ _ _ _ w.push.ensures (sym w.is_err.ensures.value ∙ w.if-is_err.false))
      | else-stays w ↦ rows_same (unmarked c.args.numbers.now) c.args.lvs.now c.loop-number.rest c.if-stays.rest c.loop-number.number _
          c.loop-number.invariant c.get.ensures (sym c.stays.ensures ∙ w.if-stays.false) w.rest-is
    ]
