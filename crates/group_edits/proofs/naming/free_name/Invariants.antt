use Rattle.std.proofs.Common.{◌≤◌}
use Rattle.group_edits.specs.JoinedGroup.{free_number, names_in}
use Rattle.group_edits.proofs.naming.free_name.Given as goal

abbrev pub invariant-loop-number : goal.invariant-loop-number
invariant-loop-number l = l.number ≤ free_number (names_in l.pvs l.lvs)
