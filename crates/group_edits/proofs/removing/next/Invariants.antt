use Rattle.group_edits.proofs.Marking.{IsNext}
use Rattle.group_edits.proofs.removing.next.Given as goal

abbrev pub invariant-loop-lv : goal.invariant-loop-lv
invariant-loop-lv l = IsNext l.named l.held l.removed l.goes l.lv
