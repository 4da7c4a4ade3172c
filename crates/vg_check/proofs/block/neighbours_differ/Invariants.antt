use Rattle.std.specs.List.{AllAdjacentBelow}
use Rattle.vg_check.specs.Ids.{IdsDifferAt}
use Rattle.vg_check.proofs.block.neighbours_differ.Given as goal

abbrev pub invariant-loop-i : goal.invariant-loop-i
invariant-loop-i l = AllAdjacentBelow (IdsDifferAt l.group l.kind) l.block l.i
