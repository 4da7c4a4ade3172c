use Rattle.std.proofs.Common.{◌≡◌, ◌++◌, drop}
use Rattle.group_edits.proofs.Staying.{rows_after}
use Rattle.group_edits.specs.Marking.{unmarked}
use Rattle.group_edits.proofs.removing.rows_after.Given as goal

abbrev pub invariant-loop-number : goal.invariant-loop-number
invariant-loop-number l = l.rest ++ rows_after (unmarked l.numbers) l.number (drop l.number l.lvs) ≡ rows_after (unmarked l.numbers) 0 l.lvs
