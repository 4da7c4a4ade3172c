use Rattle.std.specs.List.{AllAdjacentBelow}
use Rattle.volume_rules.specs.Sorting.{EndsBefore}
use Rattle.volume_rules.proofs.runs.neighbours_lie_apart.Given as goal

abbrev pub invariant-loop-i : goal.invariant-loop-i
invariant-loop-i l = AllAdjacentBelow EndsBefore l.runs l.i
