-- A command that changes something: the disks are flushed and scanned, what is stale, old or a stray is repaired, the line is judged
-- by what stands there then, its zeros and then its other batches are written, and disks are cleared that the group lets go.
use Rattle.std.specs.Prelude.{◌≡◌, ℕ, true, List, [], length, Option, Some, None, Result, Ok, Err, MatchResult}
use Rattle.command_table.specs.declared.command.Command.{Command}
use Rattle.command_table.specs.Options.{Word}
use Rattle.line_answers.specs.declared.answer.Answer.TheVariants.{Fine, NoMemory, PvFailed, Refused}
use Rattle.line_answers.specs.declared.op_refusal.OpRefusal.{OpRefusal}
use Rattle.lvm_script.specs.declared.line.Line.{Line}
use Rattle.disk_model.specs.Idle.{IsIdleAgain}
use Rattle.disk_model.specs.Record.{IsRecord}
use Rattle.disk_model.specs.Since.{BetweenRecords}
use Rattle.disk_model.specs.State.{State}
use Rattle.disk_model.specs.Steps.{Record}
use Rattle.disk_batch.specs.InTurn.{Put}
use Rattle.vg_found.specs.Shape.{HasShape}
use Rattle.vg_found.specs.Whole.{IsWhole}
use Rattle.vg_found.specs.declared.found.Found.{Found}
use Rattle.vg_scan.specs.Scans.{AreFewReads}
use Rattle.group_plan.specs.declared.backup.Backup.{Backup}
use Rattle.group_plan.specs.declared.state.Change.{Change}
use Rattle.group_plan.specs.declared.state.GroupState.{GroupState}
use Rattle.lv_plans.specs.Allocating.{Takes}
use Rattle.group_ops.specs.Laws.{state_in}
use Rattle.group_ops.specs.Planning.{IsBackupOf, asks_of, change_of, refusal_of}
use Rattle.change_batches.specs.Laws.{AreCleared, ClearsKeep}
use Rattle.vg_change.specs.LineBatches.{batches_of, clears_of, zeros_of}
use Rattle.vg_change.specs.CarryingOut.{HasJudged, IsCarried}
use Rattle.vg_change.specs.declared.fault.ChangeFault.{ChangeFault}
use Rattle.vg_change.specs.declared.fault.ChangeFault.TheVariants as fault
use Rattle.vg_change.specs.LineLaws.{AreasAreKept, IsFoundAfter}
use Rattle.vg_repair.specs.Batches.{repair_batches}
use Rattle.vg_repair.specs.Repaired.{repaired_of}
use Rattle.vg_repair.specs.Laws.{KeepsImages as RepairKeepsImages, StraysAreOthers}
use Rattle.vg_repair.specs.Repairing.{HasBegun as HasRepairBegun, IsFault as IsRepairFault, IsRepaired, Repairs}
use Rattle.vg_repair.specs.Stale.{too_large}
use Rattle.vg_repair.specs.declared.fault.RepairFault.{RepairFault}
use Rattle.vg_repair.specs.declared.fault.RepairFault.TheVariants as repair
use Rattle.lvm_run.specs.declared.ending.Ending.{Ending}
use Rattle.lvm_run.specs.declared.ending.Ending.TheVariants as ending
use Rattle.lvm_run.specs.declared.outcome.Outcome.{Outcome}
use Rattle.lvm_run.specs.declared.outcome.Outcome.TheVariants.{Ended, Answered}
use Rattle.lvm_run.specs.CommandSpec.{AtDisks, CommandSpec, Context, Inputs, no_inputs}
use Rattle.lvm_run.specs.Scan.{FindsWhole}

-- the line of the command
abbrev pub line_in : Context → Command → Line
line_in context command = record { number = 1; id = context.id; command = command }

-- what it is judged against, by what was found, once it is repaired, and by what its text gives
abbrev pub state_by : Context → Found → Option Backup → GroupState
state_by context found backup = state_in (repaired_of found) context.names backup

-- what the line of this command makes of what was found, by what it takes
abbrev pub change_by : Context → Command → Found → Inputs → Change
change_by context command found given = change_of (state_by context found given.backup) (line_in context command) context.now given.given

-- what it may take, by what was found
abbrev pub TakesBy : Context → Command → Option Found → Inputs → Type 0
TakesBy context command None given = given ≡ no_inputs
TakesBy context command (Some found) given =
    Takes (asks_of (state_by context found given.backup) (line_in context command)) given.given × IsBackupOf command given.backup

-- its first refusal, by what was found and by what it takes
abbrev pub refusal_by : Context → Command → Option Found → Inputs → Option OpRefusal
refusal_by context command None given = None
refusal_by context command (Some found) given =
    refusal_of (state_by context found given.backup) (line_in context command) context.now given.given

-- its zeros, by the same
abbrev pub zeros_by : Context → Command → Option Found → Inputs → List (List Put)
zeros_by context command None given = []
zeros_by context command (Some found) given =
    zeros_of (state_by context found given.backup) (line_in context command) context.now given.given

-- its other batches
abbrev pub batches_by : Context → Command → Option Found → Inputs → List (List Put)
batches_by context command None given = []
batches_by context command (Some found) given =
    batches_of (state_by context found given.backup) (line_in context command) context.now given.given

-- and those that clear disks
abbrev pub clears_by : Context → Command → Option Found → Inputs → List (List Put)
clears_by context command None given = []
clears_by context command (Some found) given =
    clears_of (state_by context found given.backup) (line_in context command) context.now given.given

-- the batches that repair what was found
abbrev pub repairs_by : Option Found → List (List Put)
repairs_by None = []
repairs_by (Some found) = repair_batches found

-- the first stale area in which the group's text has no room
abbrev pub stuck_by : Option Found → Option (ℕ × ℕ × ℕ)
stuck_by None = None
stuck_by (Some found) = too_large found

-- a command that changes something
abbrev pub changing : Command → CommandSpec
changing command = record {
  flushes = true;
  looks = AtDisks;
  scan = λ context image unread scanned. FindsWhole image context.sizes unread scanned;
  takes = λ context found given. TakesBy context command found given;
  refusal = λ context found given. refusal_by context command found given;
  repairs = λ found. repairs_by found;
  stuck = λ found. stuck_by found;
  zeros = λ context found given. zeros_by context command found given;
  batches = λ context found given. batches_by context command found given;
  clears = λ context found given. clears_by context command found given;
  keeps =
      λ context found given base image. (f : Found) × (found ≡ Some f)
      × AreasAreKept (state_by context f given.backup) (line_in context command) context.now given.given base image;
  reads = λ context image spans. AreFewReads image context.sizes spans;
  finds =
      λ context found given image. (f : Found) × (found ≡ Some f)
      × IsFoundAfter (state_by context f given.backup) (line_in context command) context.now given.given image;
  clearing = λ context found given base image. (f : Found) × (found ≡ Some f)
      × ClearsKeep (change_by context command f given).cleared (state_by context f given.backup).disks
      (state_by context f given.backup).areas base image;
  cleared = λ context found given image. (f : Found) × (found ≡ Some f)
      × AreCleared (change_by context command f given).cleared (state_by context f given.backup).disks
      (state_by context f given.backup).areas image;
  reports = λ context found image text. ⊥;
}

-- what a line that was carried out, or a fault of it, comes to
abbrev pub outcome_of : Result ℕ ChangeFault → Outcome
outcome_of (Ok made) = Answered 1 Fine
outcome_of (Err fault.NoMemory) = Answered 1 NoMemory
outcome_of (Err (fault.Refused refusal)) = Answered 1 (Refused refusal)
outcome_of (Err (fault.Failed pv)) = Answered 1 (PvFailed pv)
outcome_of (Err (fault.Uncleared pv made)) = Answered 1 (PvFailed pv)

-- the moment at which it took place, where it did
abbrev pub took_of : Result ℕ ChangeFault → Option ℕ
took_of (Ok made) = Some made
took_of (Err (fault.Uncleared pv made)) = Some made
took_of _ = None

-- the line was carried out on what was found, by what its text gives, as far as it came, with this outcome, and took place then
pub record IsCarriedOut (found : Found) (names : List Word) (line : Line) (now : ℕ) (old : State) (outcome : Outcome) (took : Option ℕ)
    (new : State) : Type 0 where
  pub backup : Option Backup
  pub result : Result ℕ ChangeFault
  pub given_back : HasJudged result → IsBackupOf line.command backup
  pub is : outcome ≡ outcome_of result
  pub took_is : took ≡ took_of result
  pub again : IsIdleAgain old new
  pub carried : IsCarried (state_in found names backup) line now old result new

-- how a run ends whose disks can't be repaired
abbrev pub ending_of : RepairFault → Ending
ending_of repair.NoMemory = ending.NoMemory
ending_of (repair.Pv pv) = ending.RepairFailed pv
ending_of (repair.TooLarge pv need room) = ending.RepairRefused pv need room

-- what followed on a repair: the line was carried out, or it ended with the fault
abbrev pub GoesOn : List Word → Line → ℕ → Result Found RepairFault → State → Outcome → Option ℕ → State → Type 0
GoesOn names line now (Ok repaired) old outcome took new = IsCarriedOut repaired names line now old outcome took new
GoesOn names line now (Err fault) old outcome took new = (outcome ≡ Ended (ending_of fault)) × (took ≡ None) × (new ≡ old)

-- what was repaired is whole
abbrev pub IsWholeAgain : Result Found RepairFault → Type 0
IsWholeAgain (Ok repaired) = HasShape repaired × IsWhole repaired
IsWholeAgain (Err fault) = Unit {0}

-- what was found was repaired, and then the line carried out, which was begun after so many steps and took place after so many, if
-- it did, as far as they came, and this is the outcome
pub record IsChanged (found : Found) (names : List Word) (line : Line) (now : ℕ) (old : State) (outcome : Outcome) (begun : ℕ)
    (took : Option ℕ) (new : State) : Type 0 where
  pub result : Result Found RepairFault
  pub mid : State
  pub begun_is : begun ≡ mid.steps
  pub whole : IsWholeAgain result
  pub again : IsIdleAgain old mid
  pub follows : (told : Record) → mid.told ≡ Some told → IsRecord told.steps
  pub steps : (told : Record) → mid.told ≡ Some told → mid.steps ≡ length told.steps
  pub cause : MatchResult result (IsRepaired found old mid) (IsRepairFault found old mid)
  pub told : BetweenRecords (Repairs (repair_batches found) result) old.told mid.told
  pub images : HasRepairBegun result → StraysAreOthers found → RepairKeepsImages found
  pub goes : GoesOn names line now result mid outcome took new
