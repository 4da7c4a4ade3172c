-- What a batch on its way needs of the shelf and of a completion, to submit what is still to come.
use Rattle.std.specs.Prelude.{◌≡◌, ◌≤◌, ◌<◌, ℕ, List, [], length, All}
use Rattle.disk_model.specs.declared.ops.Done.{Done}
use Rattle.disk_model.specs.declared.ops.Op.{Op}
use Rattle.disk_model.specs.declared.ops.Op.TheVariants.{Read, Write, Flush}
use Rattle.disk_model.specs.InFlight.{IsAmong}
use Rattle.disk_model.specs.Record.{IsIn, Operation}
use Rattle.disk_model.specs.State.{State}
use Rattle.disk_model.specs.Steps.{sectors_of_work}
use Rattle.disk_batch.specs.Views.{View, sectors_to_come, to_come}
use Rattle.disk_batch.specs.Writes.{BlockNext, BlocksFirst, LieIn, block_size}

-- what is to come lies in disks of these sizes
pub record LiesOn (sizes : List ℕ) (view : View) : Type 0 where
  pub rest : LieIn sizes view.rest
  pub flush : All (λ (pv : ℕ). pv < length sizes) view.flush

-- the sectors that an operation brings back
abbrev pub buffer_of : Op → List (List ℕ)
buffer_of (Read span buffer) = buffer
buffer_of (Write span sectors) = sectors
buffer_of (Flush pv) = []

-- where a block is next the completed operation brings back as many sectors
abbrev pub HasBuffer : View → Done → Type 0
HasBuffer view done = BlockNext view.rest → length (buffer_of done.op) ≡ block_size

-- Each block comes behind blocks alone, and where one is next all operations of the batch in flight are blocks.
pub record HasBuffers (in_flight : List Operation) (view : View) : Type 0 where
  pub order : BlocksFirst view.rest
  pub blocks : BlockNext view.rest → (o : Operation) → IsIn in_flight o → IsAmong view.tags o.tag → sectors_of_work o.work ≡ block_size

-- what is to come lies in the disks, is spare, and has buffers
pub record FitsOn (state : State) (view : View) : Type 0 where
  pub lies : LiesOn state.sizes view
  pub ops : to_come view ≤ state.spare_ops
  pub sectors : sectors_to_come view ≤ state.spare_sectors
  pub buffers : HasBuffers state.in_flight view
