use Rattle.vg_check.specs.Marks.{LockedAreMarked}
use Rattle.vg_check.proofs.moving.locked_are_marked.Given as goal

abbrev pub invariant-loop-number : goal.invariant-loop-number
invariant-loop-number l = LockedAreMarked l.group l.numbers l.number
