-- A commit on its way, phase by phase, as the layers above see it, and what its calls do.
use Rattle.std.specs.Prelude.{◌≡◌, ◌+◌, ℕ, List, Option, Some, None, IfSome}
use Rattle.disk_model.specs.declared.ops.Done.{Done}
use Rattle.disk_model.specs.State.{State}
use Rattle.disk_batch.specs.declared.batch.Batch.{Batch}
use Rattle.disk_batch.specs.declared.batching.BatchStep.{BatchStep}
use Rattle.disk_batch.specs.declared.batching.BatchStep.TheVariants as batch
use Rattle.disk_batch.specs.Batches.{Goes, Starts, disks_of, view_of, writes_of}
use Rattle.disk_batch.specs.Fits.{LiesOn}
use Rattle.disk_batch.specs.Views.{View, sectors_to_come, to_come}
use Rattle.mda_header.specs.declared.header.Locn.{Locn}
use Rattle.mda_ring.specs.declared.area.Area.{Area}
use Rattle.vg_commit.specs.declared.committing.ComStep.{ComStep}
use Rattle.vg_commit.specs.declared.committing.ComStep.TheVariants as published
use Rattle.vg_commit.specs.declared.committing.Committing.{Committing}
use Rattle.vg_commit.specs.declared.committing.Precommitted.{Precommitted}
use Rattle.vg_commit.specs.declared.precommitting.Precommitting.{Precommitting}
use Rattle.vg_commit.specs.declared.precommitting.PreStep.{PreStep}
use Rattle.vg_commit.specs.declared.precommitting.PreStep.TheVariants as pre
use Rattle.vg_commit.specs.declared.prepared.Prepared.{Prepared}
use Rattle.vg_commit.specs.Preparing.{CanRun, ops_of, sectors_in}

-- before it is published: the batch on its way, that of the headers until it is the one on its way, the batch that
-- publishes them, and the areas with their new entries
pub record PreView : Type 0 where
  pub batch : View
  pub headers : Option Batch
  pub publish : Batch
  pub areas : List (Area × Option Locn)

-- ready to be published
pub record ReadyView : Type 0 where
  pub publish : Batch
  pub areas : List (Area × Option Locn)

-- since it is published
pub record ComView : Type 0 where
  pub batch : View
  pub areas : List (Area × Option Locn)

-- a commit before it is published, as the layers above see it
abbrev pub pre_view : Precommitting → PreView
pre_view commit = record { batch = view_of commit.batching; headers = commit.headers; publish = commit.publish; areas = commit.areas }

-- one that is ready
abbrev pub ready_view : Precommitted → ReadyView
ready_view commit = record { publish = commit.publish; areas = commit.areas }

-- and one that is published
abbrev pub com_view : Committing → ComView
com_view commit = record { batch = view_of commit.batching; areas = commit.areas }

-- how many operations a batch uses up, if there is one
abbrev pub ops_if : Option Batch → ℕ
ops_if None = 0
ops_if (Some batch) = ops_of batch

-- and how many sectors
abbrev pub sectors_if : Option Batch → ℕ
sectors_if None = 0
sectors_if (Some batch) = sectors_in batch

-- how many operations it may still submit before it is ready
abbrev pub ops_ahead : PreView → ℕ
ops_ahead view = to_come view.batch + ops_if view.headers

-- and how many sectors
abbrev pub sectors_ahead : PreView → ℕ
sectors_ahead view = sectors_to_come view.batch + sectors_if view.headers

-- what it may still submit before it is ready lies in disks of these sizes
pub record FitsAhead (sizes : List ℕ) (view : PreView) : Type 0 where
  pub batch : LiesOn sizes view.batch
  pub headers : IfSome view.headers (CanRun sizes)

-- how many operations it may still submit before it is ready, by what it came to
abbrev pub ops_left : PreStep → ℕ
ops_left (pre.Going next) = ops_ahead (pre_view next)
ops_left step = 0

-- and how many sectors
abbrev pub sectors_left : PreStep → ℕ
sectors_left (pre.Going next) = sectors_ahead (pre_view next)
sectors_left step = 0

-- how many operations it may still submit since it was published
abbrev pub ops_after : ComStep → ℕ
ops_after (published.Going next) = to_come (com_view next).batch
ops_after step = 0

-- and how many sectors
abbrev pub sectors_after : ComStep → ℕ
sectors_after (published.Going next) = sectors_to_come (com_view next).batch
sectors_after step = 0

-- the texts were submitted
abbrev pub StartsCommit : State → Prepared → PreView → State → Type 0
StartsCommit old prepared view new = Starts old (writes_of prepared.texts) (disks_of prepared.texts) view.batch new
    × (view ≡ record { batch = view.batch; headers = Some prepared.headers; publish = prepared.publish; areas = prepared.areas })

-- once its batch is through it submits the headers, or it is ready
abbrev pub GoesOn : State → PreView → Option Batch → PreStep → State → Type 0
GoesOn old view (Some headers) (pre.Going next) new =
    Starts old (writes_of headers) (disks_of headers) (pre_view next).batch new
    × (pre_view next ≡ record view { batch = (pre_view next).batch; headers = None })
GoesOn old view None (pre.Ready ready) new = (new ≡ old) × (ready_view ready ≡ record { publish = view.publish; areas = view.areas })
GoesOn old view headers step new = ⊥

-- what it does at what its batch came to
abbrev pub PreFollows : State → PreView → BatchStep → PreStep → State → Type 0
PreFollows old view (batch.Going next') (pre.Going next) new = (new ≡ old) × (pre_view next ≡ record view { batch = view_of next' })
PreFollows old view batch.Well step new = GoesOn old view view.headers step new
PreFollows old view (batch.Lost pv') (pre.Lost pv) new = (new ≡ old) × (pv ≡ pv')
PreFollows old view came step new = ⊥

-- it took a completion of its own: its batch did, and came to this, and then nothing happened but what follows from it
pub record PreGoes (old : State) (view : PreView) (done : Done) (step : PreStep) (new : State) : Type 0 where
  pub came : BatchStep
  pub mid : State
  pub goes : Goes old view.batch done came mid
  pub follows : PreFollows mid view came step new

-- the headers with the new entries in force were submitted
abbrev pub Publishes : State → ReadyView → ComView → State → Type 0
Publishes old ready view new =
    Starts old (writes_of ready.publish) (disks_of ready.publish) view.batch new
    × (view ≡ record { batch = view.batch; areas = ready.areas })

-- what it does at what its batch came to, since it is published
abbrev pub ComFollows : State → ComView → BatchStep → ComStep → State → Type 0
ComFollows old view (batch.Going next') (published.Going next) new = (new ≡ old) × (com_view next ≡ record view { batch = view_of next' })
ComFollows old view batch.Well (published.Whole committed) new = (new ≡ old) × (committed.areas ≡ view.areas)
ComFollows old view (batch.Lost pv') (published.Fenced pv) new = (new ≡ old) × (pv ≡ pv')
ComFollows old view came step new = ⊥

-- it took a completion of its own since it was published
pub record ComGoes (old : State) (view : ComView) (done : Done) (step : ComStep) (new : State) : Type 0 where
  pub came : BatchStep
  pub mid : State
  pub goes : Goes old view.batch done came mid
  pub follows : ComFollows mid view came step new
