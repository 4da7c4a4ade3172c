use Rattle.std.proofs.Common.{◌≡◌, ◌≤◌}
use Rattle.group_edits.proofs.NumberedRest.{IsFilled}
use Rattle.group_edits.specs.Marking.{unmarked}
use Rattle.group_edits.specs.Removing.{number_after}
use Rattle.group_edits.proofs.new_numbers.numbered.Given as goal

abbrev pub invariant-loop-lv : goal.invariant-loop-lv
invariant-loop-lv l = ((l.number ≡ number_after (unmarked l.goes) l.lv) × (l.number ≤ l.lv)) × IsFilled l.goes l.table l.lv
