-- Queues of batches, and what their calls do.
use Rattle.std.specs.Prelude.{◌≡◌, List, [], ◌∷◌, ◌++◌}
use Rattle.disk_model.specs.State.{State}
use Rattle.disk_model.specs.declared.ops.Done.{Done}
use Rattle.disk_batch.specs.Batches.{Goes, Starts, disks_of, view_of, writes_of}
use Rattle.disk_batch.specs.Views.{View}
use Rattle.disk_batch.specs.declared.batch.Batch.{Batch}
use Rattle.disk_batch.specs.declared.batching.BatchStep.{BatchStep}
use Rattle.disk_batch.specs.declared.batching.BatchStep.TheVariants as batch
use Rattle.batch_queue.specs.declared.queue.Queue.{Queue}
use Rattle.batch_queue.specs.declared.queue.Turning.{Turning}
use Rattle.batch_queue.specs.declared.queue.TurnStep.{TurnStep}
use Rattle.batch_queue.specs.declared.queue.TurnStep.TheVariants.{Going, Through, Lost}

-- the batches of a queue, the next one last
abbrev pub ahead_of : Queue → List Batch
ahead_of queue = queue.ahead.items

-- a batch on its way, and those behind it
pub record TurnView : Type 0 where
  pub batch : View
  pub ahead : List Batch

-- as the layers above see it
abbrev pub turn_view : Turning → TurnView
turn_view turning = record { batch = view_of turning.batching; ahead = turning.ahead.items }

-- the next batch was started
pub record StartsNext (old : State) (ahead : List Batch) (view : TurnView) (new : State) : Type 0 where
  pub next : Batch
  pub last : ahead ≡ view.ahead ++ next ∷ []
  pub starts : Starts old (writes_of next) (disks_of next) view.batch new

-- what follows of what its batch came to
abbrev pub Follows : TurnView → BatchStep → TurnStep → Type 0
Follows view (batch.Going batching) (Going turning) = turn_view turning ≡ record view { batch = view_of batching }
Follows view batch.Well (Through queue) = ahead_of queue ≡ view.ahead
Follows view (batch.Lost pv) (Lost pv') = pv' ≡ pv
Follows view came step = ⊥

-- it took a completion of its own
pub record Turns (old : State) (view : TurnView) (done : Done) (step : TurnStep) (new : State) : Type 0 where
  pub came : BatchStep
  pub goes : Goes old view.batch done came new
  pub follows : Follows view came step
