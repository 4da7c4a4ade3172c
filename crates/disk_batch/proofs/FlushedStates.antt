-- Which disks a batch has flushed, call by call.
use Rattle.std.proofs.Common.{◌≡◌, ◌≤◌, ◌<◌, ℕ, true, false, List, [], ◌∷◌, length, get_or, All, Option, Some, None, IfSome, option_map}
use Rattle.std.proofs.Common.{sym, ap, subst, ◌∙◌, arith}
use Rattle.sector_base.specs.declared.spans.Span.{Span}
use Rattle.disk_model.specs.declared.ops.Done.{Done}
use Rattle.disk_model.specs.Steps.{Step, Completed, Record, step_on}
use Rattle.disk_model.specs.Record.{IsRecord, Operation}
use Rattle.disk_model.specs.Calls.{Completes}
use Rattle.disk_model.specs.InFlight.{IsAmong}
use Rattle.disk_model.specs.Operations.{disk_of, work_of}
use Rattle.disk_model.specs.State.{IsLawful, State}
use Rattle.disk_model.specs.Submitting.{submitted_on}
use Rattle.disk_model.proofs.WhereTold.{told_after, told_at, told_map, told_weaker}
use Rattle.disk_batch.specs.declared.batching.BatchStep.{BatchStep}
use Rattle.disk_batch.specs.declared.batching.BatchStep.TheVariants.{Going, Well, Lost}
use Rattle.disk_batch.specs.declared.batching.Batching.{Batching}
use Rattle.disk_batch.specs.Batches.{Follows, Goes, Starts, after_done, view_of}
use Rattle.disk_batch.specs.Flushed.{FlushesSince, HasFlushedSince}
use Rattle.disk_batch.specs.Submits.{put_operation}
use Rattle.disk_batch.specs.Views.{View, Turn, Waits, Writes, Flushes, IsWell, IsLost, turn_of}
use Rattle.disk_batch.proofs.Among.{all_of_each}
use Rattle.disk_batch.proofs.Calling.{IsTurn, is_turn}
use Rattle.disk_batch.proofs.Flushing.{flushes_done, flushes_later, flushes_submitted, flushes_well}

-- what is told of each disk is told of all
pub told_of_each : (P : ℕ → Record → Type 0) (disks : List ℕ) (o : Option Record) → ((pv : ℕ) → IsAmong disks pv → IfSome o (P pv))
    → IfSome o (λ told. All (λ (pv : ℕ). P pv told) disks)
told_of_each P disks None each = tt
told_of_each P disks (Some told) each = all_of_each (λ (pv : ℕ). P pv told) disks each

module _ (from pv : ℕ) where
  -- what it has made sure of, where the shelf tells its record
  abbrev pub FlushingHolds : View → State → Type 0
  FlushingHolds view state = IfSome state.told (λ told. FlushesSince view told from pv)

  -- a batch that writes something starts
  pub starts_flushing : (old new : State) (puts : List (Span × List (List ℕ))) (disks : List ℕ) (view : View) → 0 < length puts
      → Starts old puts disks view new → FlushingHolds view new
  starts_flushing old new [] disks view some starts = absurd (omega arith)
  starts_flushing old new (put ∷ puts) disks view some starts =
      let later : view.flushing ≡ false = ap (λ (v : View). v.flushing) starts.view_is in
      let os = starts.works.os in
      subst (λ (o : Option Record). IfSome o (λ told. FlushesSince view told from pv)) (sym starts.works.submits.told)
      (told_map (submitted_on os) (λ told. FlushesSince view told from pv) old.told
      (λ t is. flushes_later view (submitted_on os t) from pv later))

  -- an operation of its own completes
  flushing_done : (before mid : State) (done : Done) (view : View) → IsLawful mid → Completes before done mid → FlushingHolds view before
      → FlushingHolds (after_done view done) mid
  flushing_done before mid done view lawful completes h =
      let step : Step = Completed done.tag (work_of done.op) done.well completes.told.0 in
      told_after (step_on step) (λ told. FlushesSince view told from pv) (λ told. FlushesSince (after_done view done) told from pv)
      before.told mid.told completes.told.1
      (λ t is f.
      let record' : IsRecord (step_on step t).steps =
      told_at (λ told. IsRecord told.steps) mid.told (step_on step t) lawful.follows
      (completes.told.1 ∙ ap (option_map (step_on step)) is) in
      flushes_done view t from pv done.tag (disk_of done.op) (work_of done.op) done.well completes.told.0 record' f) h

  -- what it came to
  abbrev pub FlushingCame : BatchStep → State → Type 0
  FlushingCame (Going next) state = IfSome state.told (λ told. FlushesSince (view_of next) told from pv)
  FlushingCame Well state = IfSome state.told (λ told. HasFlushedSince from pv told.steps)
  FlushingCame (Lost disk) state = Unit {0}

  flushing_follows : (old new : State) (view : View) (turn : Turn) (step : BatchStep) → IsTurn view turn → from ≤ old.next_tag
      → IsAmong view.flush pv → Follows old view turn step new → FlushingHolds view old → FlushingCame step new
  flushing_follows old new view Waits (Going next) is since among f h =
      subst (λ (s : State). FlushingHolds (view_of next) s) (sym f.0) (subst (λ (v : View). FlushingHolds v old) (sym f.1) h)
  flushing_follows old new view Writes (Going next) is since among f h =
      let later : (view_of next).flushing ≡ false = ap (λ (v : View). v.flushing) f.view_is ∙ is in
      let os : List Operation = put_operation f.tag f.put ∷ [] in
      subst (λ (o : Option Record). IfSome o (λ told. FlushesSince (view_of next) told from pv)) (sym f.submits.told)
      (told_map (submitted_on os) (λ told. FlushesSince (view_of next) told from pv) old.told
      (λ t told. flushes_later (view_of next) (submitted_on os t) from pv later))
  flushing_follows old new view Flushes (Going next) is since among f h =
      let os : List Operation = f.0.os in
      let fresh : All (λ (o : Operation). from ≤ o.tag) os =
      λ k d within. let new_tag : old.next_tag ≤ (get_or os k d).tag = f.0.submits.fresh k d within in omega (arith, since, new_tag) in
      told_after (submitted_on os) (λ told. FlushesSince view told from pv) (λ told. FlushesSince (view_of next) told from pv) old.told
      new.told f.0.submits.told
      (λ t told b.
      subst (λ (v : View). FlushesSince v (submitted_on os t) from pv) (sym f.1)
      (subst (λ (tags : List ℕ). FlushesSince (record view { tags = tags; flushing = true }) (submitted_on os t) from pv) f.0.tags_are
      (flushes_submitted view os t from pv f.0.works_are among fresh))) h
  flushing_follows old new view IsWell Well is since among f h =
      subst (λ (s : State). FlushingCame Well s) (sym f)
      (told_weaker (λ told. FlushesSince view told from pv) (λ told. HasFlushedSince from pv told.steps) old.told
      (λ t b. flushes_well view t from pv is.0 is.1 is.2 b) h)
  flushing_follows old new view (IsLost disk) (Lost disk') is since among f h = tt
  flushing_follows old new view turn step is since among f h = absurd f

  -- a completion of its own, and what the batch does at it
  pub goes_flushing : (before mid new : State) (view : View) (done : Done) (step : BatchStep) → IsLawful mid → from ≤ mid.next_tag
      → IsAmong view.flush pv → Completes before done mid → Goes mid view done step new → FlushingHolds view before → FlushingCame step new
  goes_flushing before mid new view done step lawful since among completes goes h =
      let after : View = after_done view done in
      flushing_follows mid new after (turn_of after) step (is_turn after) since among goes
      (flushing_done before mid done view lawful completes h)

-- the batch flushes the same disks
abbrev pub KeepsFlush : List ℕ → BatchStep → Type 0
KeepsFlush flush (Going next) = (view_of next).flush ≡ flush
KeepsFlush flush Well = Unit {0}
KeepsFlush flush (Lost pv) = Unit {0}

follows_flush : (old new : State) (view : View) (turn : Turn) (next : Batching) → Follows old view turn (Going next) new
    → (view_of next).flush ≡ view.flush
follows_flush old new view Waits next f = ap (λ (v : View). v.flush) f.1
follows_flush old new view Writes next f = ap (λ (v : View). v.flush) f.view_is
follows_flush old new view Flushes next f = ap (λ (v : View). v.flush) f.1
follows_flush old new view IsWell next f = absurd f
follows_flush old new view (IsLost pv) next f = absurd f

pub goes_flush : (old mid : State) (view : View) (done : Done) (came : BatchStep) → Goes old view done came mid → KeepsFlush view.flush came
goes_flush old mid view done (Going next) goes = follows_flush old mid (after_done view done) (turn_of (after_done view done)) next goes
goes_flush old mid view done Well goes = tt
goes_flush old mid view done (Lost pv) goes = tt
