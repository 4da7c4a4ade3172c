use Rattle.std.proofs.Common.{◌∙◌, sym, ap}
use Rattle.std.specs.Prelude.{not}
use Rattle.group_edits.proofs.Marking.{count_more, count_same}
use Rattle.group_edits.proofs.new_numbers.counted.Goals as goal
use Rattle.group_edits.proofs.new_numbers.counted.Goals.{then-not-is_marked, else-not-is_marked}

pub loop-earlier-preserved : goal.loop-earlier-preserved
loop-earlier-preserved c =
    elim c.if-not-is_marked.branch [
      | then-not-is_marked w ↦ count_more c.args.goes.now c.loop-earlier.earlier c.loop-earlier.number c.if-not-is_marked.number
          c.loop-earlier.invariant (ap not (sym c.is_marked.ensures ∙ w.if-not-is_marked.true)) w.number-is
      | else-not-is_marked w ↦ count_same c.args.goes.now c.loop-earlier.earlier c.loop-earlier.number c.if-not-is_marked.number
          c.loop-earlier.invariant (ap not (sym c.is_marked.ensures ∙ w.if-not-is_marked.false)) w.number-is
    ]
