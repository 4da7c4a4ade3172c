-- What a commit on its way has made sure of, phase by phase, whatever else is in flight.
use Rattle.std.specs.Prelude.{◌≡◌, ◌≤◌, ◌<◌, ℕ, Bool, List, map, All, Option, Some, None, IfSome}
use Rattle.std.specs.Ordering.{nat_cmp}
use Rattle.std.specs.FinSet as set
use Rattle.disk_model.specs.Durability.{AllLeave}
use Rattle.disk_model.specs.State.{State}
use Rattle.disk_model.specs.Steps.{Step, Record}
use Rattle.disk_batch.specs.declared.batch.Batch.{Batch}
use Rattle.disk_batch.specs.Batches.{disks_of, writes_of}
use Rattle.disk_batch.specs.Faults.{FaultsSince}
use Rattle.disk_batch.specs.Flushed.{FlushesSince, HasFlushedSince}
use Rattle.disk_batch.specs.InTurn.{Put}
use Rattle.disk_batch.specs.Rounds.{AreStill, BatchHolds}
use Rattle.disk_batch.specs.Views.{View}
use Rattle.disk_batch.specs.Writes.{disks_in}
use Rattle.mda_header.specs.declared.header.Locn.{Locn}
use Rattle.mda_ring.specs.declared.area.Area.{Area}
use Rattle.vg_commit.specs.declared.committed.Committed.{Committed}
use Rattle.vg_commit.specs.declared.committing.ComStep.{ComStep}
use Rattle.vg_commit.specs.declared.committing.ComStep.TheVariants as published
use Rattle.vg_commit.specs.declared.precommitting.PreStep.{PreStep}
use Rattle.vg_commit.specs.declared.precommitting.PreStep.TheVariants as pre
use Rattle.vg_commit.specs.Commits.{Published, WithTexts, written_at}
use Rattle.vg_commit.specs.Phases.{ComView, PreView, ReadyView, com_view, pre_view, ready_view}
use Rattle.vg_commit.specs.Plans.{HeadersRead}
use Rattle.vg_commit.specs.Preparing.{AreCommitted, area_disks}
use Rattle.vg_commit.specs.SectorReading.{AllRead, AreSized, new_reading, old_reading}
use Rattle.vg_commit.specs.TooLarge.{first_too_large}
use Rattle.vg_commit.specs.Written.{area_writes, headers_of, in_areas, publish_of, texts_of, with_entries}

-- a commit as it was begun: the text, the areas with their entries and the bytes that stood there, the disks that are
-- flushed, and the next tag and the counts of faults at its start
pub record Commit : Type 0 where
  pub text : List ℕ
  pub areas : List (Area × Option Locn)
  pub bytes : Area × Option Locn → List ℕ
  pub flush : set.FinSet nat_cmp
  pub from : ℕ
  pub faults : ℕ → ℕ

-- what its three batches write
abbrev pub texts_in : Commit → List Put
texts_in commit = texts_of (map (area_writes commit.text) commit.areas)

-- of the second
abbrev pub headers_in : Commit → List Put
headers_in commit = headers_of (map (area_writes commit.text) commit.areas)

-- and of the third
abbrev pub publish_in : Commit → List Put
publish_in commit = publish_of (map (area_writes commit.text) commit.areas)

-- the sectors of its areas
abbrev pub is_own : Commit → ℕ → ℕ → Bool
is_own commit = in_areas commit.areas

-- those that the texts go to
abbrev pub is_text : Commit → ℕ → ℕ → Bool
is_text commit = written_at (texts_in commit)

-- and the headers
abbrev pub is_header : Commit → ℕ → ℕ → Bool
is_header commit = written_at (headers_in commit)

-- the value is as the areas' old entries and bytes ask
abbrev pub IsOld : Commit → ℕ → ℕ → List ℕ → Type 0
IsOld commit = AllRead (old_reading commit.bytes) commit.areas

-- and as the new entries and the text ask
abbrev pub IsNew : Commit → ℕ → ℕ → List ℕ → Type 0
IsNew commit = AllRead (new_reading commit.text) commit.areas

-- the old reading, and beside the headers the new one too
abbrev pub IsOldWithTexts : Commit → ℕ → ℕ → List ℕ → Type 0
IsOldWithTexts commit = WithTexts (is_header commit) (IsOld commit) (IsNew commit)

-- of a header the old reading or the new one, of other sectors both
abbrev pub IsEither : Commit → ℕ → ℕ → List ℕ → Type 0
IsEither commit = Published (is_header commit) (IsOld commit) (IsNew commit)

-- the areas can take the text, and their headers are read again as they are
pub record IsSound (commit : Commit) : Type 0 where
  pub committed : AreCommitted commit.areas commit.flush
  pub room : first_too_large commit.text commit.areas ≡ None
  pub read : All (HeadersRead commit.text) commit.areas

-- each disk of the commit was flushed since it began
abbrev pub HaveFlushed : Commit → List Step → Type 0
HaveFlushed commit steps = All (λ (pv : ℕ). HasFlushedSince commit.from pv steps) (disks_in commit.flush)

-- the batch that is still to be started writes this, and flushes the areas' disks
abbrev pub IsAhead : Commit → List Put → Batch → Type 0
IsAhead commit puts batch = (writes_of batch ≡ puts) × (disks_of batch ≡ disks_in (area_disks commit.areas))

-- while the texts are on their way, and while the headers are that name them
abbrev pub HoldsBefore : Commit → Option Batch → View → Record → Type 0
HoldsBefore commit (Some headers) batch told = BatchHolds (is_own commit) (is_text commit) (IsOld commit) (IsNew commit) batch told
    × All (λ (pv : ℕ). FlushesSince batch told commit.from pv) (disks_in commit.flush)
HoldsBefore commit None batch told =
    BatchHolds (is_own commit) (is_header commit) (IsOldWithTexts commit) (IsOld commit) batch told × HaveFlushed commit told.steps

-- and while the headers are that publish it
abbrev pub HoldsSince : Commit → View → Record → Type 0
HoldsSince commit batch told =
    BatchHolds (is_own commit) (is_header commit) (IsEither commit) (IsNew commit) batch told × HaveFlushed commit told.steps

-- the disks that the batch on its way flushes
abbrev pub FlushesOf : Commit → Option Batch → List ℕ → Type 0
FlushesOf commit (Some headers) flush = flush ≡ disks_in commit.flush
FlushesOf commit None flush = flush ≡ disks_in (area_disks commit.areas)

-- Before it is published: the bytes that stood in the areas are sized, and it has made sure of this.
pub record PreHolds (commit : Commit) (view : PreView) (state : State) : Type 0 where
  pub sound : IsSound commit
  pub headers : IfSome view.headers (IsAhead commit (headers_in commit))
  pub publish : IsAhead commit (publish_in commit) view.publish
  pub entries : view.areas ≡ with_entries commit.text commit.areas
  pub flush : FlushesOf commit view.headers view.batch.flush
  pub told : IfSome state.told (λ told. AreSized (old_reading commit.bytes) commit.areas × HoldsBefore commit view.headers view.batch told)
  pub since : commit.from ≤ state.next_tag
  pub faults : FaultsSince commit.faults view.batch.lost state

-- no write to the areas is in flight, and a crash may leave only this in them
pub record Rests (commit : Commit) (Now : ℕ → ℕ → List ℕ → Type 0) (told : Record) : Type 0 where
  pub sized : AreSized (old_reading commit.bytes) commit.areas
  pub leaves : AllLeave (is_own commit) Now told
  pub still : AreStill (is_own commit) told

-- Ready to be published.
pub record ReadyHolds (commit : Commit) (view : ReadyView) (state : State) : Type 0 where
  pub sound : IsSound commit
  pub publish : IsAhead commit (publish_in commit) view.publish
  pub entries : view.areas ≡ with_entries commit.text commit.areas
  pub told : IfSome state.told (λ told. Rests commit (IsOldWithTexts commit) told × HaveFlushed commit told.steps)
  pub since : commit.from ≤ state.next_tag
  pub faults : FaultsSince commit.faults None state

-- Since it is published.
pub record ComHolds (commit : Commit) (view : ComView) (state : State) : Type 0 where
  pub sound : IsSound commit
  pub entries : view.areas ≡ with_entries commit.text commit.areas
  pub flush : view.batch.flush ≡ disks_in (area_disks commit.areas)
  pub told : IfSome state.told (λ told. AreSized (old_reading commit.bytes) commit.areas × HoldsSince commit view.batch told)
  pub since : commit.from ≤ state.next_tag
  pub faults : FaultsSince commit.faults view.batch.lost state

-- It is whole.
pub record WholeHolds (commit : Commit) (committed : Committed) (state : State) : Type 0 where
  pub sound : IsSound commit
  pub entries : committed.areas ≡ with_entries commit.text commit.areas
  pub told : IfSome state.told (λ told. Rests commit (IsNew commit) told × HaveFlushed commit told.steps)

-- An operation of it on this disk failed, which its count of faults shows.
pub record FailedHolds (commit : Commit) (Now : ℕ → ℕ → List ℕ → Type 0) (pv : ℕ) (state : State) : Type 0 where
  pub sound : IsSound commit
  pub told : IfSome state.told (Rests commit Now)
  pub rose : commit.faults pv < state.faults pv

-- what it came to before it is published
abbrev pub PreCame : Commit → PreStep → State → Type 0
PreCame commit (pre.Going next) state = PreHolds commit (pre_view next) state
PreCame commit (pre.Ready ready) state = ReadyHolds commit (ready_view ready) state
PreCame commit (pre.Lost pv) state = FailedHolds commit (IsOld commit) pv state

-- and what it came to since
abbrev pub ComCame : Commit → ComStep → State → Type 0
ComCame commit (published.Going next) state = ComHolds commit (com_view next) state
ComCame commit (published.Whole committed) state = WholeHolds commit committed state
ComCame commit (published.Fenced pv) state = FailedHolds commit (IsEither commit) pv state
