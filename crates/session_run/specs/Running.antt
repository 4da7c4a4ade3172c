-- What the lines of a session come to.
use Rattle.std.specs.Prelude.{◌≡◌, ℕ, false, is_none, not, List, [], ◌∷◌, ◌++◌, length, map, Option, None, Some}
use Rattle.std.specs.List.{list_any}
use Rattle.line_answers.specs.declared.answer.Answer.{Answer}
use Rattle.line_answers.specs.declared.answer.Answer.TheVariants.{NoMemory}
use Rattle.lvm_script.specs.declared.line.Line.{Line}
use Rattle.disk_model.specs.State.{State}
use Rattle.line_table.specs.Steps.{is_open}
use Rattle.vg_found.specs.declared.found.Found.{Found}
use Rattle.io_session.specs.Runs.{IsCarriedOut}
use Rattle.io_session.specs.declared.session.Run.{Run}
use Rattle.world_acts.specs.Acts.{world}
use Rattle.io_core.specs.Events.{Makes}
use Rattle.io_core.specs.Worlds.{IsOpenedOn, WorldOn}
use Rattle.world_history.specs.Faults.{NameFaults}
use Rattle.world_history.specs.Ordered.{IsOrderedHistory, lines_with}
use Rattle.world_tracks.specs.Histories.{KeepsHistory}
use Rattle.session_run.specs.declared.running.RanLines.{RanLines}

-- the line for which memory was wanted, if it was for one
abbrev pub refused_answers : Option Line → List (ℕ × Option Answer)
refused_answers None = []
refused_answers (Some line) = (line.number, Some NoMemory) ∷ []

-- a line that wasn't begun
abbrev pub unanswered : Line → ℕ × Option Answer
unanswered line = (line.number, None)

-- all lines that weren't begun, with their answers
abbrev pub unbegun_answers : Option Line → List Line → List (ℕ × Option Answer)
unbegun_answers refused rest = refused_answers refused ++ map unanswered rest

-- The script was run by events from this world on, over a shelf whose records are told so.
abbrev pub IsRun : {S : Type 0} → (S → State) → WorldOn S → List Line → Run (WorldOn S) Line → Type 0
IsRun state start script run =
    IsCarriedOut (λ w. w.core.lines.begun) (λ w. w.core.lines.journal) (λ w. length (state w.shelf).in_flight) (λ w. false)
    (λ w. not (list_any is_open w.core.lines.answers)) (λ w line. is_none w.core.barrier)
    (λ old event new. Makes (world (state old.shelf) old.core) event (world (state new.shelf) new.core)) start script run

-- the lines that were begun in a world, each with its answer if it has one
abbrev pub said_in : {S : Type 0} → WorldOn S → List (ℕ × Option Answer) → List (Line × Option Answer)
said_in world answers = lines_with 0 world.core.lines.begun answers

-- The lines were run on this shelf, in a world of what was found there, and that is what they came to: the journal and the answers are
-- those of one history in order, and, where the shelf tells its record, of one legal history, each moment of which is consistent. An
-- answer names a disk only where an operation of that disk failed in the run.
pub record RunsLines {S : Type 0} (state : S → State) (found : Found) (shelf : S) (lines : List Line) (ran : RanLines S) : Type 0 where
  pub start : WorldOn S
  pub run : Run (WorldOn S) Line
  pub over : start.shelf ≡ shelf
  pub opened : IsOpenedOn found (length (state shelf).sizes) start.core
  pub carried : IsRun state start lines run
  pub disks : ran.shelf ≡ run.world.shelf
  pub journal : ran.journal.items ≡ run.world.core.lines.journal
  pub answers : ran.answers.items ≡ run.world.core.lines.answers
  pub unbegun : ran.unbegun.items ≡ unbegun_answers run.refused run.rest.items
  pub history : IsOrderedHistory (state shelf).steps ran.journal.items (said_in run.world ran.answers.items)
  pub faults : NameFaults (state shelf) (state ran.shelf) ran.answers.items
  pub consistent : KeepsHistory found (state shelf) (state ran.shelf) ran.journal.items (said_in run.world ran.answers.items)
