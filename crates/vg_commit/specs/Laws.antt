-- The laws of a commit on its way, call by call and beside whatever else is in flight.
use Rattle.std.specs.Prelude.{◌≡◌, ◌≤◌, ◌+◌, ℕ, false, IsTrue, List, Option, IfSome}
use Rattle.std.specs.Ordering.{nat_cmp}
use Rattle.std.specs.FinSet as set
use Rattle.disk_model.specs.declared.ops.Done.{Done}
use Rattle.disk_model.specs.declared.ops.Op.{Op}
use Rattle.disk_model.specs.Brought.{writes}
use Rattle.disk_model.specs.Calls.{Completes, Submits}
use Rattle.disk_model.specs.InFlight.{IsAmong}
use Rattle.disk_model.specs.Moments.{EachImage}
use Rattle.disk_model.specs.Operations.{work_of}
use Rattle.disk_model.specs.Record.{Operation}
use Rattle.disk_model.specs.State.{IsLawful, State}
use Rattle.disk_model.specs.Steps.{Record, Work}
use Rattle.disk_model.specs.Submitting.{writes_at}
use Rattle.disk_batch.specs.Along.{AllAlong, GoesElsewhere}
use Rattle.disk_batch.specs.Rounds.{AreStill}
use Rattle.disk_batch.specs.Submits.{SubmitsWorks}
use Rattle.disk_batch.specs.Fits.{HasBuffer, HasBuffers, LiesOn}
use Rattle.disk_batch.specs.Views.{View, sectors_to_come, to_come}
use Rattle.mda_header.specs.declared.header.Locn.{Locn}
use Rattle.mda_ring.specs.declared.area.Area.{Area}
use Rattle.vg_commit.specs.declared.committed.Committed.{Committed}
use Rattle.vg_commit.specs.declared.committing.ComStep.{ComStep}
use Rattle.vg_commit.specs.declared.committing.ComStep.TheVariants as published
use Rattle.vg_commit.specs.declared.committing.Committing.{Committing}
use Rattle.vg_commit.specs.declared.precommitting.PreStep.{PreStep}
use Rattle.vg_commit.specs.declared.precommitting.PreStep.TheVariants as pre
use Rattle.vg_commit.specs.declared.precommitting.Precommitting.{Precommitting}
use Rattle.vg_commit.specs.declared.prepared.Prepared.{Prepared}
use Rattle.vg_commit.specs.CommitHolds.{ComCame, ComHolds, Commit, FailedHolds, HaveFlushed, IsEither, IsOld, IsSound, PreCame, PreHolds}
use Rattle.vg_commit.specs.CommitHolds.{ReadyHolds, WholeHolds, is_header, is_own, is_text, publish_in}
use Rattle.vg_commit.specs.Commits.{written_at}
use Rattle.vg_commit.specs.Phases.{ComGoes, ComView, FitsAhead, PreGoes, PreView, Publishes, ReadyView, StartsCommit, com_view}
use Rattle.vg_commit.specs.Phases.{ops_after, ops_ahead, ops_left, pre_view, sectors_after, sectors_ahead, sectors_left}
use Rattle.vg_commit.specs.Preparing.{CanRun, CanStart, IsPrepared, ops_of, sectors_in}
use Rattle.vg_commit.specs.SectorReading.{AllShow, EachShows, new_reading, old_reading}
use Rattle.vg_commit.specs.Written.{in_areas}

-- in every image each area shows its old entry and the bytes that stood there
abbrev pub ShowsOld : Commit → Record → Type 0
ShowsOld commit = EachImage (AllShow (old_reading commit.bytes) commit.areas)

-- each by itself shows, whole, these or the new entry with the text
abbrev pub ShowsEither : Commit → Record → Type 0
ShowsEither commit = EachImage (EachShows (old_reading commit.bytes) (new_reading commit.text) commit.areas)

-- each shows the new entry with the text
abbrev pub ShowsNew : Commit → Record → Type 0
ShowsNew commit = EachImage (AllShow (new_reading commit.text) commit.areas)

-- the commit that begins in this state
abbrev pub begun_in : State → List ℕ → List (Area × Option Locn) → (Area × Option Locn → List ℕ) → set.FinSet nat_cmp → Commit
begun_in state text areas bytes flush =
    record { text = text; areas = areas; bytes = bytes; flush = flush; from = state.next_tag; faults = state.faults }

-- what it goes on to lies in disks of these sizes
abbrev pub StaysWithin : List ℕ → PreStep → Type 0
StaysWithin sizes (pre.Going next) = FitsAhead sizes (pre_view next)
StaysWithin sizes step = Unit {0}

-- and what it goes on to since it was published
abbrev pub ComWithin : List ℕ → ComStep → Type 0
ComWithin sizes (published.Going next) = LiesOn sizes (com_view next).batch
ComWithin sizes step = Unit {0}

-- where a block is next, its operations in flight are blocks
abbrev pub PreHasBuffers : List Operation → PreStep → Type 0
PreHasBuffers in_flight (pre.Going next) = HasBuffers in_flight (pre_view next).batch
PreHasBuffers in_flight step = Unit {0}

-- and since it was published
abbrev pub ComHasBuffers : List Operation → ComStep → Type 0
ComHasBuffers in_flight (published.Going next) = HasBuffers in_flight (com_view next).batch
ComHasBuffers in_flight step = Unit {0}

-- ---- its own calls

-- It begins where no write to an area is in flight and in every image each area shows its entry, and all images have the
-- same bytes there.
abbrev pub BeginsHolding : Type 0
BeginsHolding =
    (prepared : Prepared) (text : List ℕ) (areas : List (Area × Option Locn)) (bytes : Area × Option Locn → List ℕ)
    (flush : set.FinSet nat_cmp) (old new : State) (view : PreView)
    → IsLawful old → IsPrepared prepared areas flush text → StartsCommit old prepared view new
    → IfSome old.told (λ told. EachImage (AllShow (old_reading bytes) areas) told × AreStill (in_areas areas) told)
    → PreHolds (begun_in old text areas bytes flush) view new × AllAlong (ShowsOld (begun_in old text areas bytes flush)) old new

-- at a completion of its own, well or not, it goes on so, and each area shows the old entry at each moment
abbrev pub GoesHolding : Type 0
GoesHolding =
    (commit : Commit) (before old new : State) (view : PreView) (done : Done) (step : PreStep) → IsLawful old → Completes before done old
    → PreGoes old view done step new
    → PreHolds commit view before → PreCame commit step new × AllAlong (ShowsOld commit) before new

-- it is published: from here on each area shows the old entry or the new one
abbrev pub PublishesHolding : Type 0
PublishesHolding = (commit : Commit) (old new : State) (ready : ReadyView) (view : ComView) → Publishes old ready view new
    → ReadyHolds commit ready old → ComHolds commit view new × AllAlong (ShowsEither commit) old new

-- and at a completion of its own it goes on so
abbrev pub CommitsHolding : Type 0
CommitsHolding =
    (commit : Commit) (before old new : State) (view : ComView) (done : Done) (step : ComStep) → IsLawful old → Completes before done old
    → ComGoes old view done step new
    → ComHolds commit view before → ComCame commit step new × AllAlong (ShowsEither commit) before new

-- ---- beside it

-- what goes on elsewhere leaves it so
abbrev pub PreElsewhere : Type 0
PreElsewhere = (commit : Commit) (view : PreView) (old new : State) → GoesElsewhere (is_own commit) view.batch.tags old new
    → PreHolds commit view old → PreHolds commit view new × AllAlong (ShowsOld commit) old new

-- a commit that is ready too
abbrev pub ReadyElsewhere : Type 0
ReadyElsewhere = (commit : Commit) (view : ReadyView) (tags : List ℕ) (old new : State) → GoesElsewhere (is_own commit) tags old new
    → ReadyHolds commit view old → ReadyHolds commit view new × AllAlong (ShowsOld commit) old new

-- and one that is published
abbrev pub ComElsewhere : Type 0
ComElsewhere = (commit : Commit) (view : ComView) (old new : State) → GoesElsewhere (is_own commit) view.batch.tags old new
    → ComHolds commit view old → ComHolds commit view new × AllAlong (ShowsEither commit) old new

-- and one that is whole
abbrev pub WholeElsewhere : Type 0
WholeElsewhere = (commit : Commit) (committed : Committed) (tags : List ℕ) (old new : State) → GoesElsewhere (is_own commit) tags old new
    → WholeHolds commit committed old → WholeHolds commit committed new × AllAlong (ShowsNew commit) old new

-- the completion of another operation goes on elsewhere
abbrev pub OthersComplete : Type 0
OthersComplete =
    (commit : Commit) (tags : List ℕ) (old new : State) (done : Done) → (IsAmong tags done.tag → ⊥) → Completes old done new
    → GoesElsewhere (is_own commit) tags old new

-- and the submission of one that writes none of the areas
abbrev pub OthersSubmit : Type 0
OthersSubmit =
    (commit : Commit) (tags : List ℕ) (old new : State) (op : Op) (tag : ℕ)
    → ((pv sector : ℕ) → IsTrue (is_own commit pv sector) → writes (work_of op) pv sector ≡ false)
    → Submits old op tag new → GoesElsewhere (is_own commit) tags old new

-- and that of many
abbrev pub OthersSubmitAll : Type 0
OthersSubmitAll =
    (commit : Commit) (tags : List ℕ) (old new : State) (works : List Work) (theirs : List ℕ)
    → ((pv sector : ℕ) → IsTrue (is_own commit pv sector) → writes_at works pv sector ≡ false)
    → SubmitsWorks old works theirs new → GoesElsewhere (is_own commit) tags old new

-- it writes sectors of its areas alone
abbrev pub WritesItsAreas : Type 0
WritesItsAreas = (commit : Commit) → IsSound commit → (pv sector : ℕ) → is_own commit pv sector ≡ false
    → (is_text commit pv sector ≡ false) × (is_header commit pv sector ≡ false) × (written_at (publish_in commit) pv sector ≡ false)

-- ---- what it uses up

-- a call uses up no more operations and sectors than by what those grow fewer that are ahead, and the disks stay as they are
pub record SpendsAhead (old : State) (ops sectors ops' sectors' : ℕ) (new : State) : Type 0 where
  pub sizes : new.sizes ≡ old.sizes
  pub spare_ops : old.spare_ops + ops' ≤ new.spare_ops + ops
  pub spare_sectors : old.spare_sectors + sectors' ≤ new.spare_sectors + sectors

-- so where all of it is spare at the beginning, each call finds spare what it asks for
abbrev pub BeginsSpending : Type 0
BeginsSpending =
    (prepared : Prepared) (old new : State) (next : Precommitting) → CanStart old.sizes prepared
    → StartsCommit old prepared (pre_view next) new
    → SpendsAhead old (ops_of prepared.texts + ops_of prepared.headers) (sectors_in prepared.texts + sectors_in prepared.headers)
    (ops_ahead (pre_view next)) (sectors_ahead (pre_view next)) new
    × FitsAhead new.sizes (pre_view next)

-- at a completion of its own
abbrev pub GoesSpending : Type 0
GoesSpending =
    (before old new : State) (now : Precommitting) (done : Done) (step : PreStep) → FitsAhead before.sizes (pre_view now)
    → Completes before done old → PreGoes old (pre_view now) done step new
    → SpendsAhead before (ops_ahead (pre_view now)) (sectors_ahead (pre_view now)) (ops_left step) (sectors_left step) new
    × StaysWithin new.sizes step

-- where it is published
abbrev pub PublishesSpending : Type 0
PublishesSpending =
    (old new : State) (ready : ReadyView) (next : Committing) → CanRun old.sizes ready.publish → Publishes old ready (com_view next) new
    → SpendsAhead old (ops_of ready.publish) (sectors_in ready.publish) (to_come (com_view next).batch)
    (sectors_to_come (com_view next).batch) new
    × LiesOn new.sizes (com_view next).batch

-- and at a completion of its own since
abbrev pub CommitsSpending : Type 0
CommitsSpending =
    (before old new : State) (now : Committing) (done : Done) (step : ComStep)
    → LiesOn before.sizes (com_view now).batch → Completes before done old
    → ComGoes old (com_view now) done step new
    → SpendsAhead before (to_come (com_view now).batch) (sectors_to_come (com_view now).batch) (ops_after step) (sectors_after step) new
    × ComWithin new.sizes step

-- ---- the buffers of blocks

-- from its beginning on a block has a buffer: that of the operation of the commit that completes before it
abbrev pub BeginsBuffered : Type 0
BeginsBuffered = (prepared : Prepared) (old new : State) (view : PreView) → IsLawful old → StartsCommit old prepared view new
    → HasBuffers new.in_flight view.batch

-- a completion of its own brings it back
abbrev pub BringsBuffer : Type 0
BringsBuffer = (view : View) (before old : State) (done : Done) → HasBuffers before.in_flight view → Completes before done old
    → IsAmong view.tags done.tag → HasBuffer view done

-- and then it goes on so
abbrev pub GoesBuffered : Type 0
GoesBuffered =
    (before old new : State) (view : PreView) (done : Done) (step : PreStep) → IsLawful old → HasBuffers before.in_flight view.batch
    → Completes before done old → PreGoes old view done step new → PreHasBuffers new.in_flight step

-- where it is published
abbrev pub PublishesBuffered : Type 0
PublishesBuffered = (old new : State) (ready : ReadyView) (view : ComView) → IsLawful old → Publishes old ready view new
    → HasBuffers new.in_flight view.batch

-- and since
abbrev pub CommitsBuffered : Type 0
CommitsBuffered =
    (before old new : State) (view : ComView) (done : Done) (step : ComStep) → IsLawful old → HasBuffers before.in_flight view.batch
    → Completes before done old → ComGoes old view done step new → ComHasBuffers new.in_flight step

-- completions and submissions of others leave it so
abbrev pub OthersLeaveBuffers : Type 0
OthersLeaveBuffers =
    (view : View) (old new : State) → HasBuffers old.in_flight view
    → ((done : Done) → Completes old done new → HasBuffers new.in_flight view)
    × ((op : Op) (tag : ℕ) → (IsAmong view.tags tag → ⊥) → Submits old op tag new → HasBuffers new.in_flight view)

-- ---- what each image shows

-- before it is published: the old entries
abbrev pub PreShows : Type 0
PreShows = (commit : Commit) (view : PreView) (state : State) → PreHolds commit view state → IfSome state.told (ShowsOld commit)

-- once it is ready each disk has been flushed since it began, too
abbrev pub ReadyShows : Type 0
ReadyShows =
    (commit : Commit) (view : ReadyView) (state : State) → ReadyHolds commit view state
    → IfSome state.told (λ told. ShowsOld commit told × HaveFlushed commit told.steps)

-- since it is published: the old entry or the new one in each area
abbrev pub ComShows : Type 0
ComShows =
    (commit : Commit) (view : ComView) (state : State) → ComHolds commit view state
    → IfSome state.told (λ told. ShowsEither commit told × HaveFlushed commit told.steps)

-- once it is whole: the new one in all
abbrev pub WholeShows : Type 0
WholeShows =
    (commit : Commit) (committed : Committed) (state : State) → WholeHolds commit committed state
    → IfSome state.told (λ told. ShowsNew commit told × HaveFlushed commit told.steps)

-- where it was lost nothing was published
abbrev pub LostShows : Type 0
LostShows = (commit : Commit) (pv : ℕ) (state : State) → FailedHolds commit (IsOld commit) pv state → IfSome state.told (ShowsOld commit)

-- where it failed since it was published each area shows the old entry or the new one
abbrev pub FencedShows : Type 0
FencedShows =
    (commit : Commit) (pv : ℕ) (state : State) → FailedHolds commit (IsEither commit) pv state → IfSome state.told (ShowsEither commit)
