-- What a run does.
use Rattle.std.specs.Prelude.{◌≡◌, ◌≤◌, ◌⊎◌, ⊤, ℕ, true, List, [], length, All, Option, Some, None}
use Rattle.std.specs.Bool.{MatchBool}
use Rattle.std.specs.Option.{option_map_or}
use Rattle.command_table.specs.declared.command.Command.{Command}
use Rattle.command_table.specs.declared.request.Request.{Request}
use Rattle.command_table.specs.declared.request.Request.TheVariants.{One}
use Rattle.command_table.specs.Commands.{changes}
use Rattle.command_table.specs.Values.{is_disk_name}
use Rattle.command_table.specs.Options.{Word}
use Rattle.lvm_script.specs.declared.line.Line.{Line}
use Rattle.lvm_script.specs.Lines.{TakesId, line_of, with_text}
use Rattle.lvm_words.specs.declared.command_line.CommandLine.{CommandLine}
use Rattle.lvm_words.specs.declared.asked.Task.{Task}
use Rattle.lvm_words.specs.declared.asked.Task.TheVariants as task
use Rattle.lvm_words.specs.CommandLines.{command_line_of, draws_id}
use Rattle.disk_model.specs.State.{State}
use Rattle.group_ops.specs.Planning.{IsPlanned}
use Rattle.lvm_run.specs.declared.ending.Ending.{Ending}
use Rattle.lvm_run.specs.declared.ending.Ending.TheVariants.{WordsRefused, NoMemory}
use Rattle.lvm_run.specs.declared.outcome.Outcome.{Outcome}
use Rattle.lvm_run.specs.declared.outcome.Outcome.TheVariants.{Ended}
use Rattle.lvm_run.specs.declared.timed_outcome.TimedOutcome.{TimedOutcome}
use Rattle.lvm_run.specs.CommandSpec.{Context}
use Rattle.lvm_run.specs.Commands.{is_built, spec_of}
use Rattle.lvm_run.specs.Meets.{Meets}
use Rattle.lvm_run.specs.Sourced.{GivesText, IsUnread, SourceState, reads_source}

-- what a line is judged against that has this id
abbrev pub context_with : List Word → Option (List ℕ) → ℕ → State → Context
context_with names id now state = record { names = names; sizes = state.sizes; id = id; now = now }

-- words are refused, unless memory was wanting, and nothing is done
abbrev pub IsRefused : State → Outcome → State → Type 0
IsRefused old outcome new = ((outcome ≡ Ended WordsRefused) ⊎ (outcome ≡ Ended NoMemory)) × (new ≡ old)

-- the same, and the source is left as it was
pub record IsRefusedUnread (from to : SourceState) (old : State) (outcome : Outcome) (new : State) : Type 0 where
  pub refused : IsRefused old outcome new
  pub unread : to ≡ from

-- the source gave no text for the line of this command, and nothing is done
pub record EndsUnread (command : Command) (from to : SourceState) (old : State) (outcome : Outcome) (new : State) : Type 0 where
  pub ending : Ending
  pub is : outcome ≡ Ended ending
  pub why : IsUnread (reads_source command) from ending to
  pub nothing : new ≡ old

-- the source gave this text, if the line reads it, and the line with it meets all that is said of its command
pub record MeetsSourced (names : List Word) (line : Line) (now : ℕ) (text : List ℕ) (from to : SourceState) (old : State)
    (outcome : Outcome) (new : State) : Type 0 where
  pub source : GivesText (reads_source line.command) text from to
  pub meets : Meets (spec_of (with_text text line).command) (context_with names line.id now old) old outcome new

-- the line was done where its command runs, unless the source gave no text for it, and else it is refused
abbrev pub RunsLine : List Word → Line → ℕ → List ℕ → SourceState → SourceState → State → Outcome → State → Type 0
RunsLine names line now text from to old outcome new =
    MatchBool (is_built line.command) (MeetsSourced names line now text from to old outcome new
    ⊎ EndsUnread line.command from to old outcome new) (IsRefusedUnread from to old outcome new)

-- what is asked for was done or refused; the demo is refused until it is built, and what a session does is told in `Sessions`
abbrev pub RunsRequest : List Word → Request → (ℕ → List ℕ) → ℕ → List ℕ → SourceState → SourceState → State → Outcome → State → Type 0
RunsRequest names (One command) ids now text from to old outcome new =
    RunsLine names (line_of 1 command ids) now text from to old outcome new
RunsRequest names _ ids now text from to old outcome new = IsRefusedUnread from to old outcome new

-- the same of the task that it became
abbrev pub RunsTask : List Word → Task → ℕ → List ℕ → SourceState → SourceState → State → Outcome → State → Type 0
RunsTask names (task.One line) now text from to old outcome new = RunsLine names line now text from to old outcome new
RunsTask names _ now text from to old outcome new = IsRefusedUnread from to old outcome new

-- 1 to 64 names, each that of a disk
pub record AreNamed (names : List Word) : Type 0 where
  pub some : 1 ≤ length names
  pub few : length names ≤ 64
  pub each : All (λ (name : Word). is_disk_name name ≡ true) names

-- it is line 1, and can be planned where its command is built and changes something
pub record CanPlan (line : Line) : Type 0 where
  pub first : line.number ≡ 1
  pub planned : is_built line.command ≡ true → changes line.command ≡ true → IsPlanned line.id line.command

-- the same of the line of a task
abbrev pub CanPlanTask : Task → Type 0
CanPlanTask (task.One line) = CanPlan line
CanPlanTask _ = ⊤

-- the names of the disks of a run
abbrev pub names_of : List Word → List Word
names_of words = option_map_or (λ (line : CommandLine). line.names) (command_line_of words) []

-- a run of these words, at this time, came to this outcome, where the source gave this text
pub record RunsWords (words : List Word) (now : ℕ) (text : List ℕ) (from to : SourceState) (ids : ℕ → List ℕ) (old : State)
    (outcome : Outcome) (ids_after : ℕ → List ℕ) (new : State) : Type 0 where
  -- words without a meaning are refused
  pub refused : command_line_of words ≡ None → IsRefusedUnread from to old outcome new × (ids_after ≡ ids)
  -- what other words ask for was done or refused
  pub lines : (line : CommandLine) → command_line_of words ≡ Some line
      → RunsRequest line.names line.request ids now text from to old outcome new
  -- it draws the four numbers of an id where its command draws one, and else none, whatever it answers
  pub drawn : (line : CommandLine) → command_line_of words ≡ Some line
      → TakesId (draws_id line.request) ids ids_after ⊎ ((outcome ≡ Ended NoMemory) × (ids_after ≡ ids) × (new ≡ old))

-- a run that ended so before anything was done
abbrev pub ended_by : Ending → TimedOutcome
ended_by ending = record { outcome = Ended ending; begun = 0; took = None }
