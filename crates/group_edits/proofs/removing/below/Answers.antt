use Rattle.std.proofs.Common.{◌∙◌, refl, sym, arith}
use Rattle.group_edits.proofs.Marking.{below_first, below_marked, below_step, below_unmarked}
use Rattle.group_edits.proofs.removing.below.Goals as goal
use Rattle.group_edits.proofs.removing.below.Goals.{then-not-is_marked, else-not-is_marked}

pub loop-number-init : goal.loop-number-init
loop-number-init c = below_first c.args.group.now c.args.skipped.now _ refl

pub loop-number-preserved : goal.loop-number-preserved
loop-number-preserved c =
    below_step c.args.group.now c.args.skipped.now c.loop-number.all c.if-not-is_marked.all c.loop-number.number (omega arith)
    c.loop-number.invariant
    (elim c.if-not-is_marked.branch [
      | then-not-is_marked w ↦ below_unmarked c.args.group.now c.args.skipped.now c.loop-number.all c.if-not-is_marked.all
          w.mark_segments.new.all c.loop-number.number _ c.get.ensures (sym c.is_marked.ensures ∙ w.if-not-is_marked.true) w.all-is
          w.as_slice.result.now w.as_slice.ensures w.mark_segments.ensures
      | else-not-is_marked w ↦ below_marked c.args.group.now c.args.skipped.now c.loop-number.all c.if-not-is_marked.all
          c.loop-number.number (sym c.is_marked.ensures ∙ w.if-not-is_marked.false) w.all-is
    ])
