-- Nothing is in flight, and no fault is counted.
use Rattle.op_queue.proofs.Fresh.{state_of-fresh}
use Rattle.op_queue.proofs.queue.OpQueue.new.Goals as goal

pub returns-clause-state : goal.returns-clause-state
returns-clause-state c =
    state_of-fresh c.args.sizes.items c.new.result.items c.in_ok-faults.faults.items c.len.result c.new.ensures.items c.in_ok-faults.ensures
