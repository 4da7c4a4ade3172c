-- The journal and the answers of a run, and the promise to the administrator.
use Rattle.std.specs.Prelude.{◌≡◌, ◌≤◌, ℕ, ◌+◌, Bool, true, false, if◌then◌else◌, List, [], ◌∷◌, map, Option, Some, None, vec_capacity}
use Rattle.std.specs.Prelude.{vec_len}
use Rattle.std.specs.List.{list_any}
use Rattle.std.specs.Option.{option_map_or}
use Rattle.command_table.specs.Options.{Word}
use Rattle.command_table.specs.declared.command.Command.{Command}
use Rattle.command_table.specs.declared.command.Command.TheVariants as command
use Rattle.command_table.specs.declared.request.Request.{Request}
use Rattle.command_table.specs.declared.request.Request.TheVariants.{One}
use Rattle.line_answers.specs.declared.answer.Answer.{Answer}
use Rattle.line_answers.specs.declared.answer.Answer.TheVariants as answer
use Rattle.lvm_script.specs.Lines.{line_of, with_text}
use Rattle.lvm_script.specs.declared.line.Line.{Line}
use Rattle.lvm_words.specs.CommandLines.{command_line_of}
use Rattle.lvm_words.specs.declared.asked.Task.{Task}
use Rattle.lvm_words.specs.declared.asked.Task.TheVariants as task
use Rattle.lvm_words.specs.declared.command_line.CommandLine.{CommandLine}
use Rattle.disk_model.specs.Durability.{IsBase}
use Rattle.disk_model.specs.State.{State}
use Rattle.disk_model.specs.Steps.{Image, Record, now_after}
use Rattle.line_table.specs.declared.journal.EntryKind.{EntryKind}
use Rattle.line_table.specs.declared.journal.EntryKind.TheVariants as kind
use Rattle.line_table.specs.declared.journal.JournalEntry.{JournalEntry}
use Rattle.lvm_report.specs.AnswerLines.{answers_text}
use Rattle.image_scans.specs.Laws.{none_out}
use Rattle.vg_scan.specs.Versions.{FindsVersion, Version}
use Rattle.volume_history.specs.Commands.{commits}
use Rattle.volume_history.specs.Placed.{volumes_of}
use Rattle.volume_history.specs.Replay.{opening_volumes, plain_state}
use Rattle.volume_history.specs.Runs.{HasHistory, Run}
use Rattle.line_history.specs.EachSet.{MembersAgree, SetsAgree}
use Rattle.line_history.specs.Histories.{HasRunHistory, journal_of_line, run_from}
use Rattle.world_history.specs.Causes.{AreCaused}
use Rattle.lvm_run.specs.Outcomes.{output_of}
use Rattle.lvm_run.specs.Runs.{names_of}
use Rattle.lvm_run.specs.declared.entered.Entered.{Entered}
use Rattle.lvm_run.specs.declared.outcome.Outcome.{Outcome}
use Rattle.lvm_run.specs.declared.outcome.Outcome.TheVariants.{Ended, Answered, Reported}

-- a line that was begun, with its answer
abbrev pub Said : Type 0
Said = Line × Option Answer

-- the answer of the line, where it was begun: a report is ok, and a line for which memory was wanting wasn't begun
abbrev pub said_of : Outcome → Option Answer
said_of (Ended ending) = None
said_of (Answered number answer.NoMemory) = None
said_of (Answered number said) = Some said
said_of (Reported text whole) = Some answer.Fine

-- the journal of a line that was begun after so many steps and took place after so many, if it did, where the run ended after so
-- many
abbrev pub journal_by : ℕ → Option ℕ → ℕ → Outcome → List JournalEntry
journal_by begun took ended outcome = option_map_or (λ (said : Answer). journal_of_line begun took ended) (said_of outcome) []

-- the line, where it was begun
abbrev pub lines_by : Line → Outcome → List Said
lines_by line outcome = option_map_or (λ (said : Answer). (line, Some said) ∷ []) (said_of outcome) []

-- the line that is asked for, with this text, if it restores a group, where it was begun
abbrev pub lines_asked : Request → List ℕ → (ℕ → List ℕ) → Outcome → List Said
lines_asked (One command) text ids outcome = lines_by (with_text text (line_of 1 command ids)) outcome
lines_asked _ text ids outcome = []

-- the same of a task
abbrev pub lines_of_task : Task → List ℕ → Outcome → List Said
lines_of_task (task.One line) text outcome = lines_by (with_text text line) outcome
lines_of_task _ text outcome = []

-- and of words
abbrev pub lines_of_words : List Word → List ℕ → (ℕ → List ℕ) → Outcome → List Said
lines_of_words words text ids outcome =
    option_map_or (λ (line : CommandLine). lines_asked line.request text ids outcome) (command_line_of words) []

-- whether an entry is of something that took place
abbrev pub is_took : EntryKind → Bool
is_took kind.Took = true
is_took _ = false

-- whether anything took place
abbrev pub took_place : List JournalEntry → Bool
took_place entries = list_any (λ (entry : JournalEntry). is_took entry.kind) entries

-- where the line has committed a group or removed it and was answered ok, no set of the disks finds an older version of it than
-- all of them; and where it has committed one, and disks couldn't be cleared that this lets go, no set of the disks of the group
abbrev pub NoneOlder : List JournalEntry → List Said → List ℕ → Record → Type 0
NoneOlder journal ((line, Some answer.Fine) ∷ []) sizes ended = commits line.command ≡ true → SetsAgree sizes ended
NoneOlder journal ((line, Some (answer.PvFailed pv)) ∷ []) sizes ended = took_place journal ≡ true → MembersAgree sizes ended
NoneOlder journal _ sizes ended = Unit {0}

-- The promise: where the disks tell their record, each of their sectors has one possible value when they are handed in, and a
-- scan of them finds one whole version of the group, or none, the journal and the answers are those of one legal history of
-- plain volumes, and stopped at any moment since then, scanning the disks finds one whole version, in force or of the
-- pending command, where every sector of every volume is its last acknowledged write or a later one. A command is pending at
-- the end only where all was submitted that its commit writes, or the clearing that removes a group was begun; and no set of the
-- disks finds an older version than the last acknowledged one.
abbrev pub KeepsPromise : List Word → ℕ → State → List JournalEntry → List Said → State → Type 0
KeepsPromise names now old journal lines new =
    (handed : Record) → old.told ≡ Some handed → (base : Image) → IsBase handed base → (version : Option Version)
    → FindsVersion old.sizes base none_out version
    → (ended : Record) → new.told ≡ Some ended
    → HasRunHistory handed base old.sizes names now ended journal lines × NoneOlder journal lines old.sizes ended

-- the run has its history, in which each answer that names a disk has its cause, and at its end a read gives what the volumes of that
-- have
pub record HasShownHistory (run : Run) (journal : List JournalEntry) (lines : List Said) : Type 0 where
  pub history : HasHistory run journal lines
  pub shown :
      (plain_state history.chronicle.origin history.chronicle.entries).volumes
      ≡ opening_volumes (now_after run.told.opened run.told.steps) 0 (volumes_of history.chronicle.origin.version)
  pub causes : AreCaused history.chronicle.origin history.chronicle.entries

-- The promise of a session: where the disks tell their record, and each of their sectors has one possible value when they are handed in,
-- the journal and the answers of its lines are those of one legal history of plain volumes, and stopped at any moment since then, scanning
-- the disks finds the version in force, where every sector of every volume is its last acknowledged write or a later one; each answer that
-- names a disk has its cause, and at its end a read gives what the volumes have. That is so at whatever time.
abbrev pub KeepsLines : List Word → State → List JournalEntry → List Said → State → Type 0
KeepsLines names old journal lines new =
    (handed : Record) → old.told ≡ Some handed → (base : Image) → IsBase handed base → (clock : ℕ) → (ended : Record)
    → new.told ≡ Some ended → HasShownHistory (run_from handed old.sizes names clock ended) journal lines

-- each moment of the journal lies between these two, none before that of an earlier entry
abbrev pub AreInTime : ℕ → List JournalEntry → ℕ → Type 0
AreInTime from [] to = from ≤ to
AreInTime from (entry ∷ entries) to = (from ≤ entry.moment) × AreInTime entry.moment entries to

-- whether the command reports on what a scan finds, and does nothing else
abbrev pub reports_scan : Command → Bool
reports_scan command.Pvs = true
reports_scan command.Vgs = true
reports_scan command.Lvs = true
reports_scan command.Vgck = true
reports_scan (command.Vgcfgbackup vg) = true
reports_scan _ = false

-- the earliest moment of a line between these two: such a report is begun behind its scan, which is the end
abbrev pub begun_from : List Said → ℕ → ℕ → ℕ
begun_from ((line, said) ∷ lines) from to = if reports_scan line.command then to else from
begun_from [] from to = from

-- what a run has entered of its lines, nothing, where none was begun, is in time, told or not, and it keeps the promise
pub record IsEntered (names : List Word) (now : ℕ) (old : State) (journal : List JournalEntry) (lines : List Said) (new : State) : Type 0
  where
    pub unbegun : lines ≡ [] → journal ≡ []
    pub in_time : AreInTime (begun_from lines old.steps new.steps) journal new.steps
    pub promise : KeepsPromise names now old journal lines new

-- of each of these lines, its number and its answer
abbrev pub answers_of : List Said → List (ℕ × Option Answer)
answers_of lines = map (λ (line : Said). (line.0.number, line.1)) lines

-- whether it is the answer of a line that was begun
abbrev pub is_answer : Outcome → Bool
is_answer (Answered number answer.NoMemory) = false
is_answer (Answered number said) = true
is_answer _ = false

-- what a run of these words has entered that came to this outcome, where the source gave this text: the answers of the lines that
-- were asked for and begun, which are what it prints where a line has answered, and their journal
pub record HasEntered (words : List Word) (now : ℕ) (text : List ℕ) (ids : ℕ → List ℕ) (old : State) (outcome : Outcome)
    (journal : List JournalEntry) (answers : List (ℕ × Option Answer)) (new : State) : Type 0 where
  pub answers_is : answers ≡ answers_of (lines_of_words words text ids outcome)
  pub printed : is_answer outcome ≡ true → output_of (names_of words) outcome ≡ answers_text (names_of words) answers
  pub entered : IsEntered (names_of words) now old journal (lines_of_words words text ids outcome) new

-- ---- what is kept of them in memory

-- nothing is entered
abbrev pub IsNothing : Entered → Type 0
IsNothing entered = (entered.journal.items ≡ []) × (entered.answers.items ≡ [])

-- there is room for one line
pub record HasRoom (entered : Entered) : Type 0 where
  pub journal : vec_len entered.journal + 3 ≤ vec_capacity entered.journal
  pub answers : vec_len entered.answers + 1 ≤ vec_capacity entered.answers
