-- So many lines stand before the rest, and none of them begins with such a name.
use Rattle.std.proofs.Common.{length}
use Rattle.session_run.proofs.FrontLines.{Passed}
use Rattle.session_run.proofs.script.first_unrun.Given as goal

abbrev pub invariant-loop-rest : goal.invariant-loop-rest
invariant-loop-rest l = Passed l.text l.rest l.number

abbrev pub decreases-loop-rest : goal.decreases-loop-rest
decreases-loop-rest l = length l.rest
