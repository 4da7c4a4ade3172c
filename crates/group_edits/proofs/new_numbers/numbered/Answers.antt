use Rattle.std.proofs.Common.{◌∙◌, refl, sym, ap, arith}
use Rattle.std.specs.Prelude.{not}
use Rattle.group_edits.proofs.Marking.{count_more, count_same}
use Rattle.group_edits.proofs.NumberedRest.{filled_all, filled_first, filled_step}
use Rattle.group_edits.proofs.new_numbers.numbered.Goals as goal
use Rattle.group_edits.proofs.new_numbers.numbered.Goals.{then-not-is_marked, else-not-is_marked}

pub loop-lv-init : goal.loop-lv-init
loop-lv-init c = ((refl, omega arith), filled_first c.args.goes.now _ refl)

pub loop-lv-preserved : goal.loop-lv-preserved
loop-lv-preserved c = (
  elim c.if-not-is_marked.branch [
    | then-not-is_marked w ↦ count_more c.args.goes.now c.loop-lv.lv c.loop-lv.number c.if-not-is_marked.number c.loop-lv.invariant.0
        (ap not (sym c.is_marked.ensures ∙ w.if-not-is_marked.true)) w.number-is
    | else-not-is_marked w ↦ count_same c.args.goes.now c.loop-lv.lv c.loop-lv.number c.if-not-is_marked.number c.loop-lv.invariant.0
        (ap not (sym c.is_marked.ensures ∙ w.if-not-is_marked.false)) w.number-is
  ],
  filled_step c.args.goes.now c.loop-lv.table c.loop-lv.lv c.loop-lv.number c.loop-lv.invariant.1 (omega arith) c.loop-lv.invariant.0.0,
)

pub returns : goal.returns
returns c = filled_all c.args.goes.now c.loop-lv.table c.loop-lv.lv c.loop-lv.invariant.1 (omega arith)
