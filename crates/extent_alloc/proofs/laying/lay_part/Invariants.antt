use Rattle.extent_alloc.proofs.LaySteps.{Laying}
use Rattle.extent_alloc.proofs.laying.lay_part.Given as goal

abbrev pub invariant-loop-at : goal.invariant-loop-at
invariant-loop-at l = Laying l.part l.fn.laid.items l.fn.runs l.from l.laid.items l.runs l.done l.at
