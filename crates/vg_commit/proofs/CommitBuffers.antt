-- The buffers of the blocks of a commit, call by call.
use Rattle.std.proofs.Common.{◌≡◌, List, Option, Some, None, sym, ap, subst}
use Rattle.disk_model.specs.Operations.{work_of}
use Rattle.disk_model.specs.Record.{Operation}
use Rattle.disk_model.specs.State.{IsLawful, State}
use Rattle.disk_batch.specs.declared.batch.Batch.{Batch}
use Rattle.disk_batch.specs.declared.batching.BatchStep.{BatchStep}
use Rattle.disk_batch.specs.declared.batching.BatchStep.TheVariants as batch
use Rattle.disk_batch.specs.Batches.{Follows, Goes, after_done, disks_of, writes_of}
use Rattle.disk_batch.specs.Fits.{HasBuffers}
use Rattle.disk_batch.specs.Views.{Turn, View, IsWell, turn_of}
use Rattle.disk_batch.proofs.Fitting.{buffers_beside, buffers_completed, goes_buffers, has_buffer, starts_buffers}
use Rattle.vg_commit.specs.declared.committing.ComStep.{ComStep}
use Rattle.vg_commit.specs.declared.committing.ComStep.TheVariants as published
use Rattle.vg_commit.specs.declared.precommitting.Precommitting.{Precommitting}
use Rattle.vg_commit.specs.declared.precommitting.PreStep.{PreStep}
use Rattle.vg_commit.specs.declared.precommitting.PreStep.TheVariants as pre
use Rattle.vg_commit.specs.Laws.{BeginsBuffered, BringsBuffer, ComHasBuffers, CommitsBuffered, GoesBuffered, OthersLeaveBuffers}
use Rattle.vg_commit.specs.Laws.{PreHasBuffers}
use Rattle.vg_commit.specs.Laws.{PublishesBuffered}
use Rattle.vg_commit.specs.Phases.{ComFollows, ComView, GoesOn, PreFollows, PreView, com_view, pre_view}

pub begins_buffered : BeginsBuffered
begins_buffered prepared old new view lawful starts =
    starts_buffers old new (writes_of prepared.texts) (disks_of prepared.texts) view.batch lawful starts.0

pub brings_buffer : BringsBuffer
brings_buffer view before old done buffers completes owns = has_buffer before old done view buffers completes owns

-- a batch that is through has changed nothing
through : (old mid : State) (view : View) (turn : Turn) → Follows old view turn batch.Well mid → mid ≡ old
through old mid view IsWell f = f
through old mid view turn f = absurd f

pub goes_buffered : GoesBuffered
goes_buffered before old new view done step lawful buffers completes goes = at goes.came step goes.goes goes.follows
  where
    headers_start : (b : Option Batch) (next : Precommitting) → goes.mid ≡ old → GoesOn goes.mid view b (pre.Going next) new
        → HasBuffers new.in_flight (pre_view next).batch
    headers_start (Some headers) next same f =
        starts_buffers goes.mid new (writes_of headers) (disks_of headers) (pre_view next).batch (subst IsLawful (sym same) lawful) f.0
    headers_start None next same f = absurd f

    at : (came : BatchStep) (step' : PreStep) → Goes old view.batch done came goes.mid → PreFollows goes.mid view came step' new
        → PreHasBuffers new.in_flight step'
    at (batch.Going next') (pre.Going next) g f =
        subst (λ (s : State). HasBuffers s.in_flight (pre_view next).batch) (sym f.0)
        (subst (λ (v : View). HasBuffers goes.mid.in_flight v) (sym (ap (λ (v : PreView). v.batch) f.1))
        (goes_buffers before old goes.mid view.batch done next' lawful buffers completes g))
    at batch.Well (pre.Going next) g f =
        headers_start view.headers next
        (through old goes.mid (after_done view.batch done) (turn_of (after_done view.batch done)) g) f
    at (batch.Lost pv) (pre.Going next) g f = absurd f
    at came (pre.Ready ready) g f = tt
    at came (pre.Lost pv) g f = tt

pub publishes_buffered : PublishesBuffered
publishes_buffered old new ready view lawful starts =
    starts_buffers old new (writes_of ready.publish) (disks_of ready.publish) view.batch lawful starts.0

pub commits_buffered : CommitsBuffered
commits_buffered before old new view done step lawful buffers completes goes = at goes.came step goes.goes goes.follows
  where
    at : (came : BatchStep) (step' : ComStep) → Goes old view.batch done came goes.mid → ComFollows goes.mid view came step' new
        → ComHasBuffers new.in_flight step'
    at (batch.Going next') (published.Going next) g f =
        subst (λ (s : State). HasBuffers s.in_flight (com_view next).batch) (sym f.0)
        (subst (λ (v : View). HasBuffers goes.mid.in_flight v) (sym (ap (λ (v : ComView). v.batch) f.1))
        (goes_buffers before old goes.mid view.batch done next' lawful buffers completes g))
    at batch.Well (published.Going next) g f = absurd f
    at (batch.Lost pv) (published.Going next) g f = absurd f
    at came (published.Whole committed) g f = tt
    at came (published.Fenced pv) g f = tt

pub others_leave_buffers : OthersLeaveBuffers
others_leave_buffers view old new buffers = (
  λ done completes.
      subst (λ (l : List Operation). HasBuffers l view) (sym completes.in_flight)
      (buffers_completed old.in_flight done.tag view buffers),
  λ op tag other submits.
      subst (λ (l : List Operation). HasBuffers l view) (sym submits.in_flight)
      (buffers_beside old.in_flight view (record { tag = tag; work = work_of op }) other buffers),
)
