-- What a run is whose shelf tells: its journal and its answers are those of one history, each moment of which is consistent, and in which
-- each failed answer has its cause.
use Rattle.std.specs.Prelude.{◌≡◌, All, Bool, ℕ, List, [], Option, Some}
use Rattle.line_answers.specs.declared.answer.Answer.{Answer}
use Rattle.line_table.specs.declared.journal.JournalEntry.{JournalEntry}
use Rattle.lvm_script.specs.declared.line.Line.{Line}
use Rattle.disk_model.specs.Durability.{IsBase}
use Rattle.disk_model.specs.State.{State}
use Rattle.disk_model.specs.Steps.{Image, Record}
use Rattle.vg_found.specs.declared.found.Found.{Found}
use Rattle.volume_history.specs.Chronicles.{Origin}
use Rattle.volume_history.specs.Laws.{run_of}
use Rattle.volume_history.specs.Replay.{plain_state}
use Rattle.volume_history.specs.Runs.{HasHistory}
use Rattle.volume_history.specs.Starting.{StartsWith}
use Rattle.io_session.specs.Events.{Event}
use Rattle.io_session.specs.Traces.{HasTimelyTrace}
use Rattle.world_acts.specs.Acts.{world}
use Rattle.io_core.specs.Events.{Makes}
use Rattle.io_core.specs.Rest.{IsKept}
use Rattle.io_core.specs.Worlds.{IsOpenedOn, WorldOn}
use Rattle.world_history.specs.Causes.{AreCaused}
use Rattle.world_history.specs.Contents.{origin_with}
use Rattle.world_history.specs.Flushing.{FlushesOneByOne}
use Rattle.world_history.specs.Ordered.{lines_with}
use Rattle.world_history.specs.Shown.{now_of, shown_state}
use Rattle.world_history.specs.Told.{IsSessionLine}
use Rattle.world_tracks.specs.Moments.{ArePast, BesideStays, HasBase}

-- over a shelf that ends so, from this origin on, where each sector had one possible value: at the end a read gives what the machine has,
-- at each moment at most one flush of each disk is in flight, each answer that names a disk has its cause, and sectors beside all places
-- of volumes keep what they had
pub record HasConsistentHistory (o : Origin) (base : Image) (ended : State) (journal : List JournalEntry)
    (lines : List (Line × Option Answer)) : Type 0 where
  pub told : Record
  pub is : ended.told ≡ Some told
  pub history : HasHistory (run_of (origin_with o told)) journal lines
  pub shown :
      plain_state history.chronicle.origin history.chronicle.entries ≡ shown_state history.chronicle.origin.version (now_of told)
  pub flushes : FlushesOneByOne history.chronicle.origin
  pub causes : AreCaused history.chronicle.origin history.chronicle.entries
  pub beside : BesideStays o.version base told

-- Such a run from the one state of the shelf to the other: each history that starts there with what was found, where each sector has one
-- possible value and each moment so far is consistent, goes on so.
abbrev pub KeepsHistory : Found → State → State → List JournalEntry → List (Line × Option Answer) → Type 0
KeepsHistory found from ended journal lines =
    (o : Origin) (base : Image) → from.told ≡ Some o.told → StartsWith o found → HasBase o base → IsBase o.told base → ArePast o o.told []
    → HasConsistentHistory o base ended journal lines

-- so does every run of a session's script from a world that was opened on what was found, over shelves whose records are told so
abbrev pub RunsKeepHistories : {S : Type 0} → (S → State) → Type 0
RunsKeepHistories {S} state =
    (start : WorldOn S) (script : List Line) → All IsSessionLine script
    → (found : Found) (disks : ℕ) (allows : WorldOn S → Line → Bool) (ended : WorldOn S) (wanted : Bool) (refused : Option Line)
    → IsOpenedOn found disks start.core
    → IsKept (world (state start.shelf) start.core)
    → (state start.shelf).in_flight ≡ []
    → HasTimelyTrace (λ (w : WorldOn S). w.core.lines.begun) allows
    (λ (old : WorldOn S) (event : Event Line) (new : WorldOn S).
    Makes (world (state old.shelf) old.core) event (world (state new.shelf) new.core)) start script ended wanted refused
    → KeepsHistory found (state start.shelf) (state ended.shelf) ended.core.lines.journal
    (lines_with 0 ended.core.lines.begun ended.core.lines.answers)
