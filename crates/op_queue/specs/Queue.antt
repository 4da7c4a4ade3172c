-- What a queue of operations stands for.
use Rattle.std.specs.Prelude.{ℕ, List, [], map, slice_index_or, None}
use Rattle.disk_model.specs.Record.{Operation}
use Rattle.disk_model.specs.Operations.{work_of}
use Rattle.disk_model.specs.State.{State, tags_of}
use Rattle.op_queue.specs.declared.queue.Waiting.{Waiting}
use Rattle.op_queue.specs.declared.queue.OpQueue.{OpQueue}

-- disks of these sizes, before the first step
abbrev pub opened_state : List ℕ → State
opened_state sizes = record {
  sizes = sizes;
  in_flight = [];
  ready = [];
  spare_ops = 0;
  spare_sectors = 0;
  steps = 0;
  faults = λ pv. 0;
  next_tag = 0;
  told = None;
}

-- the operation, as a shelf has it in flight
abbrev pub operation_of : Waiting → Operation
operation_of w = record { tag = w.tag; work = work_of w.op }

-- the state that the queue stands for: every operation in flight is ready, and no content is told
abbrev pub state_of : OpQueue → State
state_of queue = record {
  sizes = queue.sizes.items;
  in_flight = map operation_of queue.waiting.items;
  ready = tags_of (map operation_of queue.waiting.items);
  spare_ops = queue.spare_ops;
  spare_sectors = queue.spare_sectors;
  steps = queue.steps;
  faults = λ pv. slice_index_or queue.faults.items pv 0;
  next_tag = queue.next_tag;
  told = None;
}
