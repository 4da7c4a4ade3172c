use Rattle.std.proofs.Common.{◌≡◌, ◌≤◌}
use Rattle.group_edits.specs.Marking.{unmarked}
use Rattle.group_edits.specs.Removing.{number_after}
use Rattle.group_edits.proofs.new_numbers.counted.Given as goal

abbrev pub invariant-loop-earlier : goal.invariant-loop-earlier
invariant-loop-earlier l = (l.number ≡ number_after (unmarked l.goes) l.earlier) × (l.number ≤ l.earlier)
