-- The history of a run of one line: its journal and its answers, by what the line came to.
use Rattle.std.specs.Prelude.{◌≡◌, ◌≤◌, ℕ, Bool, true, false, List, [], ◌∷◌, ◌++◌, flat_map, is_some, length, take, Option, Some, None}
use Rattle.command_table.specs.Options.{Word}
use Rattle.line_answers.specs.declared.answer.Answer.{Answer}
use Rattle.line_answers.specs.declared.answer.Answer.TheVariants as answer
use Rattle.lvm_script.specs.declared.line.Line.{Line}
use Rattle.data_lines.specs.DataLines.{is_command}
use Rattle.disk_model.specs.Durability.{IsBase}
use Rattle.disk_model.specs.Order.{WritesNothing}
use Rattle.disk_model.specs.Record.{IsRecord}
use Rattle.disk_model.specs.Since.{writes_submitted}
use Rattle.disk_model.specs.Steps.{Image, Step, Record, steps_on}
use Rattle.extent_alloc.specs.declared.part.Part.{Part}
use Rattle.line_table.specs.declared.journal.EntryKind.{EntryKind}
use Rattle.line_table.specs.declared.journal.EntryKind.TheVariants as kind
use Rattle.line_table.specs.declared.journal.JournalEntry.{JournalEntry}
use Rattle.disk_batch.specs.InTurn.{Put}
use Rattle.vg_found.specs.declared.found.Found.{Found}
use Rattle.vg_scan.specs.Scans.{IsScanOf}
use Rattle.group_plan.specs.declared.backup.Backup.{Backup}
use Rattle.lv_plans.specs.Allocating.{Takes}
use Rattle.group_ops.specs.Laws.{state_in}
use Rattle.group_ops.specs.Planning.{IsBackupOf, asks_of, change_of}
use Rattle.vg_change.specs.LineBatches.{batches_of, clears_of, zeros_of}
use Rattle.vg_repair.specs.Batches.{repair_batches}
use Rattle.vg_repair.specs.Repaired.{repaired_of}
use Rattle.image_scans.specs.Laws.{none_out}
use Rattle.vg_scan.specs.Versions.{FindsVersion, Version}
use Rattle.volume_history.specs.Chronicles.{pending}
use Rattle.volume_history.specs.Commands.{commits, is_good, may_say}
use Rattle.volume_history.specs.Runs.{HasHistory, Run, zero_piece}
use Rattle.line_history.specs.LineRun.{ClearsLine, Given, RunsLine, Stage, Repaired, Zeroing, Writing, Done}

-- the run of disks of these sizes and names, from when they were handed in, as far as this is told
abbrev pub run_from : Record → List ℕ → List Word → ℕ → Record → Run
run_from handed sizes names clock ended = record { told = ended; first = length handed.steps; sizes = sizes; names = names; clock = clock }

-- an entry of line 0 without a piece
abbrev pub entry : EntryKind → ℕ → JournalEntry
entry what moment = record { kind = what; line = 0; piece = zero_piece 0; moment = moment }

-- the journal of a line that was begun at the one moment and answered at the other, and that took place at the moment between
-- them, or not at all
abbrev pub journal_of_line : ℕ → Option ℕ → ℕ → List JournalEntry
journal_of_line begun None answered = entry kind.Begun begun ∷ entry kind.Answered answered ∷ []
journal_of_line begun (Some took) answered = entry kind.Begun begun ∷ entry kind.Took took ∷ entry kind.Answered answered ∷ []

-- what a line may answer that came so far and wasn't done
abbrev pub MayAnswer : Stage → Answer → Type 0
MayAnswer Repaired (answer.Refused refusal) = Unit {0}
MayAnswer Zeroing (answer.PvFailed pv) = Unit {0}
MayAnswer Writing (answer.PvFailed pv) = Unit {0}
MayAnswer _ _ = ⊥

-- what one may answer whose batches were written, by whether all went well while disks were cleared
abbrev pub MayEnd : Bool → Answer → Type 0
MayEnd true answer.Fine = Unit {0}
MayEnd false (answer.PvFailed pv) = Unit {0}
MayEnd _ _ = ⊥

-- the moment at which such a line took place: where it commits a group, that at which its batches were written; else its end, if
-- all went well
abbrev pub took_of : Bool → Bool → ℕ → ℕ → Option ℕ
took_of true well made ended = Some made
took_of false true made ended = Some ended
took_of false false made ended = None

-- whether the line commits a group
abbrev pub commits_in : Given → Bool
commits_in g = is_some (change_of (state_in (repaired_of g.found) g.names g.backup) g.line g.clock g.given).group

-- the batches that make what a line makes: where it commits a group, the others; and else, where it removes one, those that clear
-- disks too, the first so many of them
abbrev pub making : Bool → ℕ → List (List Put) → List (List Put) → List (List Put)
making true count batches clears = batches
making false count batches clears = batches ++ take count clears

-- all was submitted that the repair of what a scan of the base finds and this line write until the group is committed, or the clearing
-- of its disks was begun, where the line removes it
pub record HasSubmittedAll (handed : Record) (base : Image) (sizes : List ℕ) (names : List Word) (clock : ℕ) (line : Line)
    (ended : Record) : Type 0 where
  pub found : Found
  pub scan : IsScanOf base sizes found
  pub since : List Step
  pub steps : ended ≡ steps_on since handed
  pub given : List Part
  pub backup : Option Backup
  pub given_back : IsBackupOf line.command backup
  pub takes : Takes (asks_of (state_in (repaired_of found) names backup) line) given
  pub count : ℕ
  pub some : 1 ≤ count
  pub writes : writes_submitted since ≡ flat_map (λ batch. batch)
      (repair_batches found ++ zeros_of (state_in (repaired_of found) names backup) line clock given ++
      making (is_some (change_of (state_in (repaired_of found) names backup) line clock given).group) count
      (batches_of (state_in (repaired_of found) names backup) line clock given)
      (clears_of (state_in (repaired_of found) names backup) line clock given))

-- a run of one line had come so far
abbrev pub IsAtLast : Record → Image → List ℕ → List Word → ℕ → List (Line × Option Answer) → Record → Type 0
IsAtLast handed base sizes names clock ((line, said) ∷ []) ended = HasSubmittedAll handed base sizes names clock line ended
IsAtLast handed base sizes names clock lines ended = ⊥

-- A run has its history, where each sector had one possible value when the disks were handed in, that of the base. A command is
-- pending at its end only where the run had come to its commit's last batch, or to the first of those that clear the disks of a group
-- that is removed: one that failed earlier has changed nothing, and the version that stood is in force.
pub record HasRunHistory (handed : Record) (base : Image) (sizes : List ℕ) (names : List Word) (clock : ℕ) (ended : Record)
    (journal : List JournalEntry) (lines : List (Line × Option Answer)) : Type 0 where
  pub history : HasHistory (run_from handed sizes names clock ended) journal lines
  pub last : is_some (pending history.chronicle.entries) ≡ true → IsAtLast handed base sizes names clock lines ended

-- the same of what was given
abbrev pub HasHistoryOf : Given → Record → List JournalEntry → List (Line × Option Answer) → Type 0
HasHistoryOf g ended journal lines = HasRunHistory g.handed g.base g.sizes g.names g.clock ended journal lines

-- a run whose line was begun has its history, where the line wasn't done
abbrev pub LinesHaveHistories : Type 0
LinesHaveHistories =
    (g : Given) (stage : Stage) (start ended : Record) (said : Answer) → RunsLine g stage start ended → MayAnswer stage said
    → HasHistoryOf g ended (journal_of_line (length start.steps) None (length ended.steps)) ((g.line, Some said) ∷ [])

-- and where its batches were written, and disks cleared as far as that came
abbrev pub ClearsHaveHistories : Type 0
ClearsHaveHistories =
    (g : Given) (well : Bool) (start ended : Record) (said : Answer) (c : ClearsLine g well start ended) → MayEnd well said
    → HasHistoryOf g ended (journal_of_line (length start.steps) (took_of (commits_in g) well (length c.made.steps) (length ended.steps))
    (length ended.steps)) ((g.line, Some said) ∷ [])

-- nothing of the line was written
abbrev pub IsBeforeLine : Stage → Type 0
IsBeforeLine Zeroing = ⊥
IsBeforeLine Writing = ⊥
IsBeforeLine Done = ⊥
IsBeforeLine _ = Unit {0}

-- so has one whose line wasn't begun
abbrev pub EndsHaveHistories : Type 0
EndsHaveHistories =
    (g : Given) (stage : Stage) (start ended : Record) → RunsLine g stage start ended → IsBeforeLine stage → HasHistoryOf g ended [] []

-- the disks were only looked at, until the line began and then: each sector had one possible value when they were handed in, of which
-- a scan finds this version, and nothing was written
pub record LooksAlone (handed : Record) (sizes : List ℕ) (start ended : Record) : Type 0 where
  pub base : Image
  pub base_is : IsBase handed base
  pub version : Option Version
  pub finds : FindsVersion sizes base none_out version
  pub first : List Step
  pub opening : start ≡ steps_on first handed
  pub since : List Step
  pub steps : ended ≡ steps_on since start
  pub nothing : WritesNothing (since ++ first)
  pub record_is : IsRecord ended.steps

-- a run that only looked at its disks, and began no line, has its history
abbrev pub LooksHaveHistories : Type 0
LooksHaveHistories =
    (handed : Record) (sizes : List ℕ) (names : List Word) (clock : ℕ) (start ended : Record) (l : LooksAlone handed sizes start ended)
    → HasRunHistory handed l.base sizes names clock ended [] []

-- the answer is ok, or none that is given for something done
abbrev pub IsFineOrBad : Answer → Type 0
IsFineOrBad answer.Fine = Unit {0}
IsFineOrBad said = is_good said ≡ false

-- the moment at which such a line took place, if it was answered ok
abbrev pub took_if : Answer → ℕ → Option ℕ
took_if answer.Fine ended = Some ended
took_if _ ended = None

-- so has one whose line is a command that commits nothing
abbrev pub ReportsHaveHistories : Type 0
ReportsHaveHistories =
    (handed : Record) (sizes : List ℕ) (names : List Word) (clock : ℕ) (start ended : Record) (line : Line) (said : Answer)
    (l : LooksAlone handed sizes start ended)
    → is_command line.command ≡ true → commits line.command ≡ false → IsFineOrBad said → may_say line.command said ≡ true
    → HasRunHistory handed l.base sizes names clock ended
    (journal_of_line (length start.steps) (took_if said (length ended.steps)) (length ended.steps)) ((line, Some said) ∷ [])
