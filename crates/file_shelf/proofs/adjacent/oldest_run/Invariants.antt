-- One call carries the run out.
use Rattle.std.proofs.Common.{length}
use Rattle.op_queue.specs.Queue.{state_of}
use Rattle.file_shelf.specs.Adjacent.{IsOneCall}
use Rattle.file_shelf.proofs.adjacent.oldest_run.Given as goal

abbrev pub invariant-loop-at : goal.invariant-loop-at
invariant-loop-at l = IsOneCall (length (state_of l.queue).sizes) l.run
