-- Batches, and what their calls do.
use Rattle.std.specs.Prelude.{◌≡◌, ◌<◌, ℕ, true, false, List, [], ◌∷◌, ◌++◌, length, map, All, None}
use Rattle.sector_base.specs.declared.spans.Span.{Span}
use Rattle.disk_model.specs.declared.ops.Done.{Done}
use Rattle.disk_model.specs.Steps.{Flushing}
use Rattle.disk_model.specs.Operations.{disk_of}
use Rattle.disk_model.specs.State.{State}
use Rattle.disk_batch.specs.declared.batch.Batch.{Batch}
use Rattle.disk_batch.specs.declared.batching.Batching.{Batching}
use Rattle.disk_batch.specs.declared.batching.BatchStep.{BatchStep}
use Rattle.disk_batch.specs.declared.batching.BatchStep.TheVariants.{Going, Well, Lost}
use Rattle.disk_batch.specs.Views.{View, Turn, Waits, Writes, Flushes, IsWell, IsLost, turn_of, done_on}
use Rattle.disk_model.specs.Submitting.{SubmitsAll}
use Rattle.disk_batch.specs.Submits.{SubmitsWorks, put_operation}
use Rattle.disk_batch.specs.Rest.{rest_of}
use Rattle.disk_batch.specs.Writes.{BlockNext, BlocksFirst, block_size, write_work}

-- the writes of a batch
abbrev pub writes_of : Batch → List (Span × List (List ℕ))
writes_of batch = batch.first ++ rest_of batch.rest

-- the disks that it flushes once they have completed
abbrev pub disks_of : Batch → List ℕ
disks_of batch = batch.disks.items

-- a batch on its way, as the layers above see it
abbrev pub view_of : Batching → View
view_of batching = record {
  tags = batching.tags.items;
  flush = batching.disks.items;
  flushing = batching.flushing;
  lost = batching.lost;
  rest = rest_of batching.rest;
}

-- Of these writes the first ones were submitted, in their order, and the others are to come, blocks before others: where a block
-- is to come, all those submitted are blocks.
pub record StartsWrites (old : State) (puts : List (Span × List (List ℕ))) (disks : List ℕ) (view : View) (new : State) : Type 0 where
  pub first : List (Span × List (List ℕ))
  pub some : 0 < length first
  pub parts : puts ≡ first ++ view.rest
  pub works : SubmitsWorks old (map write_work first) view.tags new
  pub view_is : view ≡ record { tags = view.tags; flush = disks; flushing = false; lost = None; rest = view.rest }
  pub order : BlocksFirst view.rest
  pub blocks : BlockNext view.rest → All (λ put. put.0.count ≡ block_size) first

-- the first writes were submitted, or the flushes where there is no write
abbrev pub Starts : State → List (Span × List (List ℕ)) → List ℕ → View → State → Type 0
Starts old [] disks view new =
    SubmitsWorks old (map Flushing disks) view.tags new
    × (view ≡ record { tags = view.tags; flush = disks; flushing = true; lost = None; rest = [] })
Starts old (put ∷ puts) disks view new = StartsWrites old (put ∷ puts) disks view new

-- the next of the writes to come was submitted
pub record SubmitsNext (old : State) (view next : View) (new : State) : Type 0 where
  pub put : Span × List (List ℕ)
  pub puts : List (Span × List (List ℕ))
  pub next_is : view.rest ≡ put ∷ puts
  pub tag : ℕ
  pub submits : SubmitsAll old (put_operation tag put ∷ []) new
  pub view_is : next ≡ record view { tags = view.tags ++ tag ∷ []; rest = puts }

-- the view after a completion, before anything is submitted
abbrev pub after_done : View → Done → View
after_done view done = done_on done.tag (disk_of done.op) done.well view

-- what the batch does, by the view after a completion and its turn: nothing else changes
abbrev pub Follows : State → View → Turn → BatchStep → State → Type 0
Follows old view Waits (Going next) new = (new ≡ old) × (view_of next ≡ view)
Follows old view Writes (Going next) new = SubmitsNext old view (view_of next) new
Follows old view Flushes (Going next) new =
    SubmitsWorks old (map Flushing view.flush) (view_of next).tags new
    × (view_of next ≡ record view { tags = (view_of next).tags; flushing = true })
Follows old view IsWell Well new = new ≡ old
Follows old view (IsLost pv) (Lost pv') new = (new ≡ old) × (pv' ≡ pv)
Follows old view turn step new = ⊥

-- what a completion of its own leads to
abbrev pub Goes : State → View → Done → BatchStep → State → Type 0
Goes old view done step new = Follows old (after_done view done) (turn_of (after_done view done)) step new
