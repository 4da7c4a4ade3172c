-- How an operation in flight completes: it is taken out of the queue, carried out, and counted.
use Rattle.std.specs.Prelude.{◌≡◌, ◌<◌, ℕ, ◌+◌, length, map, remove, slice_index_or}
use Rattle.std.specs.VecDeque.{deque_len, deque_capacity}
use Rattle.disk_model.specs.declared.ops.Op.{Op}
use Rattle.disk_model.specs.declared.ops.Done.{Done}
use Rattle.disk_model.specs.Operations.{Lies, work_of}
use Rattle.disk_model.specs.Calls.{Completes}
use Rattle.disk_model.specs.State.{State}
use Rattle.op_queue.specs.declared.queue.OpQueue.{OpQueue}
use Rattle.op_queue.specs.Queue.{operation_of}
use Rattle.op_queue.specs.QueueInvariant.{IsGood}

-- the operation at this place of the whole queue was taken out, and nothing else changed; if it was a read, its buffer
-- may have changed since
pub record IsTakenFrom (whole : OpQueue) (at tag : ℕ) (op : Op) (rest : OpQueue) : Type 0 where
  pub good : IsGood whole
  pub here : at < length whole.waiting.items
  pub which : slice_index_or (map operation_of whole.waiting.items) at (record { tag = tag; work = work_of op })
      ≡ record { tag = tag; work = work_of op }
  pub lies : Lies whole.sizes.items op
  pub waiting : rest.waiting.items ≡ remove whole.waiting.items at
  pub len : deque_len rest.waiting + 1 ≡ deque_len whole.waiting
  pub capacity : deque_capacity rest.waiting ≡ deque_capacity whole.waiting
  pub sizes : rest.sizes ≡ whole.sizes
  pub faults : rest.faults ≡ whole.faults
  pub spare_ops : rest.spare_ops ≡ whole.spare_ops
  pub spare_sectors : rest.spare_sectors ≡ whole.spare_sectors
  pub steps : rest.steps ≡ whole.steps
  pub next_tag : rest.next_tag ≡ whole.next_tag

-- the operation at this place of those in flight completes, and nothing that it used up is spare again
pub record CompletesAt (old : State) (at : ℕ) (done : Done) (new : State) : Type 0 where
  pub completes : Completes old done new
  pub here : at < length old.in_flight
  pub which : slice_index_or old.in_flight at (record { tag = done.tag; work = work_of done.op })
      ≡ record { tag = done.tag; work = work_of done.op }
  pub in_flight : new.in_flight ≡ remove old.in_flight at
  pub spare_ops : new.spare_ops ≡ old.spare_ops
  pub spare_sectors : new.spare_sectors ≡ old.spare_sectors
