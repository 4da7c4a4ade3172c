-- A run of one line that changes something: the disks are opened, what was found is repaired, and the line is carried out, its
-- zeros first, and disks are cleared last, each part as far as it came.
use Rattle.std.specs.Prelude.{◌≡◌, ◌<◌, ℕ, ◌^◌, Bool, true, false, IsTrue, if◌then◌else◌, List, [], length, All, None, Option}
use Rattle.command_table.specs.Options.{Word}
use Rattle.command_table.specs.Values.{is_disk_name}
use Rattle.lvm_script.specs.declared.line.Line.{Line}
use Rattle.disk_model.specs.Durability.{IsBase}
use Rattle.disk_model.specs.Order.{WritesNothing}
use Rattle.disk_model.specs.Record.{IsRecord}
use Rattle.disk_model.specs.Steps.{Image, Step, Record, steps_on}
use Rattle.extent_alloc.specs.declared.part.Part.{Part}
use Rattle.disk_batch.specs.InTurn.{Put, WritesInTurn}
use Rattle.vg_found.specs.Shape.{HasShape}
use Rattle.vg_found.specs.Whole.{IsWhole}
use Rattle.vg_found.specs.declared.found.Found.{Found}
use Rattle.vg_scan.specs.Scans.{IsScanOf}
use Rattle.group_plan.specs.declared.backup.Backup.{Backup}
use Rattle.lv_plans.specs.Allocating.{Takes}
use Rattle.group_ops.specs.Laws.{state_in}
use Rattle.group_ops.specs.Planning.{IsBackupOf, IsPlanned, asks_of, refusal_of}
use Rattle.vg_change.specs.LineBatches.{batches_of, clears_of, zeros_of}
use Rattle.vg_change.specs.CarryingOut.{KeepsImages}
use Rattle.vg_repair.specs.Batches.{repair_batches}
use Rattle.vg_repair.specs.Laws.{KeepsImages as RepairKeepsImages}
use Rattle.vg_repair.specs.Repaired.{repaired_of}
use Rattle.vg_repair.specs.Stale.{too_large}

-- how far a run came
pub data Stage : Type 0 where
  -- nothing was written
  Opened : Stage
  -- the repair was begun, and an operation of it failed
  Repairing : Stage
  -- all was repaired, and nothing of the line was written
  Repaired : Stage
  -- the zeros of the line were begun, and an operation of it failed
  Zeroing : Stage
  -- the line's batches behind them were begun, and an operation of it failed
  Writing : Stage
  -- these were written too
  Done : Stage

-- its repair was begun
abbrev pub repair_begun : Stage → Bool
repair_begun Opened = false
repair_begun _ = true

-- all was repaired
abbrev pub is_repaired : Stage → Bool
is_repaired Opened = false
is_repaired Repairing = false
is_repaired _ = true

-- the line's zeros were begun
abbrev pub zeros_begun : Stage → Bool
zeros_begun Zeroing = true
zeros_begun Writing = true
zeros_begun Done = true
zeros_begun _ = false

-- all of them were written, and the line's batches behind them begun
abbrev pub is_zeroed : Stage → Bool
is_zeroed Writing = true
is_zeroed Done = true
is_zeroed _ = false

-- all batches of the line were written
abbrev pub is_done : Stage → Bool
is_done Done = true
is_done _ = false

-- these batches where they were begun, and none else
abbrev pub batches_if : Bool → List (List Put) → List (List Put)
batches_if begun batches = if begun then batches else []

-- what was given: the disks as they were handed in, what a scan found there, their names, the line, the time, and the extents that
-- the line takes
pub record Given : Type 0 where
  pub handed : Record
  pub base : Image
  pub sizes : List ℕ
  pub found : Found
  pub names : List Word
  pub backup : Option Backup
  pub line : Line
  pub clock : ℕ
  pub given : List Part

-- the batches of its repair
abbrev pub repairs_in : Given → List (List Put)
repairs_in g = repair_batches g.found

-- those of the line's zeros, by what is found once it is done
abbrev pub zeros_in : Given → List (List Put)
zeros_in g = zeros_of (state_in (repaired_of g.found) g.names g.backup) g.line g.clock g.given

-- and those behind them
abbrev pub batches_in : Given → List (List Put)
batches_in g = batches_of (state_in (repaired_of g.found) g.names g.backup) g.line g.clock g.given

-- those that clear disks last
abbrev pub clears_in : Given → List (List Put)
clears_in g = clears_of (state_in (repaired_of g.found) g.names g.backup) g.line g.clock g.given

-- each sector has one possible value, that of the base, of which the scan was taken; it found something whole; and the line can
-- be planned
pub record IsGiven (g : Given) : Type 0 where
  pub base : IsBase g.handed g.base
  pub scan : IsScanOf g.base g.sizes g.found
  pub shape : HasShape g.found
  pub whole : IsWhole g.found
  pub named : length g.names ≡ length g.found.disks
  pub names_are : All (λ name. is_disk_name name ≡ true) g.names
  pub planned : IsPlanned g.line.id g.line.command
  pub time : g.clock < 2 ^ 48

-- what the run did to the disks, until it ended with this record; the line began at the start, and its commit once its zeros
-- were written
pub record RunsLine (g : Given) (stage : Stage) (start ended : Record) : Type 0 where
  pub given : IsGiven g
  -- the disks were opened: nothing was written
  pub opened : Record
  pub since : List Step
  pub opening : opened ≡ steps_on since g.handed
  pub nothing : WritesNothing since
  -- what was found was repaired
  pub repair : WritesInTurn opened (batches_if (repair_begun stage) (repairs_in g)) (is_repaired stage) start
  pub fits : IsTrue (repair_begun stage) → too_large g.found ≡ None
  pub repair_keeps : IsTrue (repair_begun stage) → RepairKeepsImages g.found
  pub repaired_shape : IsTrue (is_repaired stage) → HasShape (repaired_of g.found)
  pub repaired_whole : IsTrue (is_repaired stage) → IsWhole (repaired_of g.found)
  -- and then the line's zeros were written, or the run ended
  pub zeroed : Record
  pub zeros : IsTrue (is_repaired stage) → WritesInTurn start (batches_if (zeros_begun stage) (zeros_in g)) (is_zeroed stage) zeroed
  pub unrepaired : is_repaired stage ≡ false → zeroed ≡ start
  -- and then its other batches, or the run ended
  pub written : IsTrue (is_zeroed stage) → WritesInTurn zeroed (batches_in g) (is_done stage) ended
  pub unzeroed : is_zeroed stage ≡ false → ended ≡ zeroed
  pub given_back : IsTrue (zeros_begun stage) → IsBackupOf g.line.command g.backup
  pub takes : IsTrue (zeros_begun stage) → Takes (asks_of (state_in (repaired_of g.found) g.names g.backup) g.line) g.given
  pub passes : IsTrue (zeros_begun stage) → refusal_of (state_in (repaired_of g.found) g.names g.backup) g.line g.clock g.given ≡ None
  pub keeps : IsTrue (zeros_begun stage) → KeepsImages (state_in (repaired_of g.found) g.names g.backup) g.line g.clock g.given
  pub record_is : IsRecord ended.steps

-- the line's batches were written, until the disks had this record, and then disks were cleared, as far as that came
pub record ClearsLine (g : Given) (well : Bool) (start ended : Record) : Type 0 where
  pub made : Record
  pub line : RunsLine g Done start made
  pub clears : WritesInTurn made (clears_in g) well ended
  pub record_is : IsRecord ended.steps
