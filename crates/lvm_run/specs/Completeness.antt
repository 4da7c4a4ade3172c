-- When a session completes: its script is read to its end and means something, its disks are taken, nothing fails and no line is refused.
-- Then each line of the script is done, unless memory is wanting.
use Rattle.std.specs.Prelude.{◌≡◌, ◌≤◌, ◌⊎◌, ℕ, Bool, true, false, List, [], ◌∷◌, length, All, Option, None, Some, Ok}
use Rattle.std.specs.FinSet as set
use Rattle.byte_streams.specs.Streams.{HasRisen}
use Rattle.command_table.specs.declared.command.Command.{Command}
use Rattle.command_table.specs.declared.request.Session.{Session}
use Rattle.command_table.specs.Options.{Word}
use Rattle.line_answers.specs.declared.answer.Answer.{Answer}
use Rattle.disk_model.specs.Faults.{HasSameFaults}
use Rattle.disk_model.specs.State.{State}
use Rattle.disk_model.specs.Steps.{Record, now_after}
use Rattle.line_table.specs.declared.journal.JournalEntry.{JournalEntry}
use Rattle.vg_found.specs.declared.found.Found.{Found}
use Rattle.disk_use.specs.Unlisted.{AreListed}
use Rattle.vg_repair.specs.Stale.{too_large}
use Rattle.volume_history.specs.Commands.{is_good}
use Rattle.session_run.specs.SessionScript.{session_commands}
use Rattle.session_run.specs.Status.{is_refusal}
use Rattle.lvm_run.specs.CommandSpec.{Finds, Refuses}
use Rattle.lvm_run.specs.Scan.{FindsWhole}
use Rattle.lvm_run.specs.Sessions.{RunsSession, is_built_session}
use Rattle.lvm_run.specs.Sourced.{SourceState}
use Rattle.lvm_run.specs.declared.disks_refusal.DisksRefusal.{DisksRefusal}

-- ---- what is handed in

-- the source is told to hold a text that isn't too long, and is a script of these commands, each with the number of its line
pub record HasScript (from : SourceState) (commands : List (ℕ × Command)) : Type 0 where
  pub text : List ℕ
  pub told : from.left ≡ Some text
  pub fits : length text ≤ 16777216
  pub meant : session_commands text ≡ Ok commands

-- what a scan found can be taken: its text has room in each stale area, and, unless the session is forced, no disk is used by a group
-- that wasn't found
pub record CanBeTaken (forced : Bool) (found : Found) : Type 0 where
  pub room : too_large found ≡ None
  pub listed : forced ≡ false → AreListed found

-- the disks tell what they hold; a scan that reads all of them is not refused, and what it finds can be taken
pub record AreReady (forced : Bool) (state : State) : Type 0 where
  pub handed : Record
  pub told : state.told ≡ Some handed
  pub accepted : (refusal : DisksRefusal) → ¬ FindsWhole (now_after handed.opened handed.steps) state.sizes set.empty (Refuses refusal)
  pub taken :
      (found : Found) → FindsWhole (now_after handed.opened handed.steps) state.sizes set.empty (Finds (Some found))
      → CanBeTaken forced found

-- ---- what happens

-- no count of faults has risen: not the source's, not the sink's, and no disk's
pub record NoneRose (from to : SourceState) (faults_before faults_after : ℕ) (old new : State) : Type 0 where
  pub source : ¬ HasRisen from.faults to.faults
  pub sink : ¬ HasRisen faults_before faults_after
  pub disks : HasSameFaults old new

-- no line is refused
abbrev pub NoneRefused : List (ℕ × Option Answer) → Type 0
NoneRefused answers = All (λ (line : ℕ × Option Answer). is_refusal line.1 ≡ false) answers

-- ---- what it comes to

-- each line of the script has its answer, under its number and in order, which says that it is done: ok, the sectors that it read, or the
-- volumes
abbrev pub AreDone : List (ℕ × Command) → List (ℕ × Option Answer) → Type 0
AreDone [] [] = Unit {0}
AreDone (command ∷ commands) ((number, Some said) ∷ answers) = (number ≡ command.0) × (is_good said ≡ true) × AreDone commands answers
AreDone _ _ = ⊥

-- A session that is built, whose source holds a script, whose disks are ready, in which no count of faults has risen and no line is
-- refused: its status is 2, as memory was wanting, or it is 0, and each line of the script is done.
abbrev pub Completes : {S : Type 0} → (S → State) → Type 0
Completes {S} state =
    (forced : Bool) (session : Session) (names : List Word) (from to : SourceState) (ids ids_after : ℕ → List ℕ) (old : State) (status : ℕ)
    (before : Option (List ℕ)) (faults_before : ℕ) (after : Option (List ℕ)) (faults_after : ℕ) (journal : List JournalEntry)
    (answers : List (ℕ × Option Answer)) (shelf : S) (commands : List (ℕ × Command))
    → RunsSession forced session names state from to ids ids_after old status before faults_before after faults_after journal answers shelf
    → is_built_session session ≡ true
    → HasScript from commands
    → AreReady forced old
    → NoneRose from to faults_before faults_after old (state shelf)
    → NoneRefused answers
    → (status ≡ 2) ⊎ ((status ≡ 0) × AreDone commands answers)
