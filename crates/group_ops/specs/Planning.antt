-- How a line is answered: by its first refusal, or by its change.
use Rattle.std.specs.Prelude.{◌≡◌, ◌≤◌, ◌%◌, ◌^◌, ℕ, Bool, true, false, List, [], Option, None, unwrap_or, IsSomeAnd}
use Rattle.lvm_id.specs.LvmId.{IsId}
use Rattle.lvm_name.specs.Names.{group_name_refusal, volume_name_refusal}
use Rattle.command_table.specs.declared.command.Command.{Command}
use Rattle.command_table.specs.declared.command.Command.TheVariants.{Lvcreate, Lvextend, Lvreduce, Lvremove, Lvrename, Pvcreate}
use Rattle.command_table.specs.declared.command.Command.TheVariants.{Vgcfgrestore, Vgcreate, Vgextend, Vgrename, Vgreduce, Vgremove}
use Rattle.command_table.specs.Commands.{CommandKind, VolumeAdded, kind_of}
use Rattle.line_answers.specs.declared.op_refusal.OpRefusal.{OpRefusal}
use Rattle.lvm_script.specs.declared.line.Line.{Line}
use Rattle.extent_alloc.specs.declared.part.Part.{Part}
use Rattle.group_plan.specs.Backup.{IsBackup}
use Rattle.group_plan.specs.Committing.{no_change}
use Rattle.group_plan.specs.Judging.{first_refusal}
use Rattle.group_plan.specs.declared.backup.Backup.{Backup}
use Rattle.group_plan.specs.declared.state.Change.{Change}
use Rattle.group_plan.specs.declared.state.GroupState.{GroupState}
use Rattle.pv_plans.specs.Pvcreate.{pvcreate_change, pvcreate_rows}
use Rattle.vg_plans.specs.Vgcfgrestore.{vgcfgrestore_change, vgcfgrestore_rows}
use Rattle.vg_plans.specs.Vgcreate.{empty_group, vgcreate_change, vgcreate_rows}
use Rattle.vg_plans.specs.Vgextend.{vgextend_rows, extend_by}
use Rattle.vg_plans.specs.Vgreduce.{vgreduce_change, vgreduce_rows}
use Rattle.vg_plans.specs.Vgremove.{vgremove_change, vgremove_rows}
use Rattle.vg_plans.specs.Vgrename.{vgrename_change, vgrename_rows}
use Rattle.lv_plans.specs.Allocating.{Asking}
use Rattle.lv_plans.specs.Lvcreate.{IsNewVolume, lvcreate_asks, lvcreate_change, lvcreate_rows}
use Rattle.lv_plans.specs.Lvextend.{lvextend_asks, lvextend_change, lvextend_rows}
use Rattle.lv_plans.specs.Lvreduce.{lvreduce_change, lvreduce_rows}
use Rattle.lv_plans.specs.Lvremove.{lvremove_change, lvremove_rows}
use Rattle.lv_plans.specs.Lvrename.{lvrename_change, lvrename_rows}
use Rattle.lv_plans.specs.Sizes.{IsAmount, IsGrowth}

-- the id that a line has drawn
abbrev pub drawn : Line → List ℕ
drawn line = unwrap_or line.id []

-- a line of a command that is planned here, with an id where it draws one, and with values as words have them: names, amounts,
-- and sizes of extents and stripes
abbrev pub IsPlanned : Option (List ℕ) → Command → Type 0
IsPlanned id (Pvcreate pv copies) = IsSomeAnd id IsId
IsPlanned id (Vgcreate vg extent_size pvs) =
    IsSomeAnd id IsId × (group_name_refusal vg ≡ None) × (8 ≤ extent_size) × (extent_size ≤ 2 ^ 31) × (extent_size % 8 ≡ 0)
IsPlanned id (Vgextend vg pvs) = Unit {0}
IsPlanned id (Vgreduce vg pv) = Unit {0}
IsPlanned id (Vgremove vg) = Unit {0}
IsPlanned id (Vgrename vg new) = group_name_refusal new ≡ None
IsPlanned id (Vgcfgrestore vg text) = Unit {0}
IsPlanned id (Lvcreate new) = IsSomeAnd id IsId × IsNewVolume new
IsPlanned id (Lvextend path growth pvs) = IsGrowth growth
IsPlanned id (Lvreduce path amount) = IsAmount amount
IsPlanned id (Lvremove path) = Unit {0}
IsPlanned id (Lvrename vg old new) = volume_name_refusal new ≡ None
IsPlanned id _ = ⊥

-- a kind of command whose volume has sectors that are to hold zeros before its commit
abbrev pub kind_zeroes : CommandKind → Bool
kind_zeroes (VolumeAdded lv) = true
kind_zeroes _ = false

-- such a command
abbrev pub zeroes : Command → Bool
zeroes command = kind_zeroes (kind_of command)

-- what is known of the text of a line, where a group is restored from it, is what that gives
abbrev pub IsBackupOf : Command → Option Backup → Type 0
IsBackupOf (Vgcfgrestore vg text) backup = IsSomeAnd backup (IsBackup text)
IsBackupOf _ backup = Unit {0}

-- what a line asks of the allocator, where it takes extents
abbrev pub asks_of : GroupState → Line → Option Asking
asks_of state line = by line.command
  where
    by : Command → Option Asking
    by (Lvcreate new) = lvcreate_asks state (drawn line) new
    by (Lvextend path growth pvs) = lvextend_asks state path growth pvs
    by _ = None

-- the rows of a line's refusals, in their order, where it takes these parts at this time
abbrev pub rows_of : GroupState → Line → ℕ → List Part → List (Option OpRefusal)
rows_of state line now given = by line.command
  where
    by : Command → List (Option OpRefusal)
    by (Pvcreate pv copies) = pvcreate_rows state (drawn line) pv copies
    by (Vgcreate vg extent_size pvs) = vgcreate_rows state (empty_group (drawn line) vg extent_size) pvs now
    by (Vgextend vg pvs) = vgextend_rows state vg pvs now
    by (Vgreduce vg pv) = vgreduce_rows state vg pv now
    by (Vgremove vg) = vgremove_rows state vg
    by (Vgrename vg new) = vgrename_rows state vg new now
    by (Vgcfgrestore vg text) = vgcfgrestore_rows state vg now
    by (Lvcreate new) = lvcreate_rows state (drawn line) new now given
    by (Lvextend path growth pvs) = lvextend_rows state path growth pvs now given
    by (Lvreduce path amount) = lvreduce_rows state path amount now
    by (Lvremove path) = lvremove_rows state path now
    by (Lvrename vg old new) = lvrename_rows state vg old new now
    by _ = []

-- its first refusal then
abbrev pub refusal_of : GroupState → Line → ℕ → List Part → Option OpRefusal
refusal_of state line now given = first_refusal (rows_of state line now given)

-- its change then, where nothing refuses it
abbrev pub change_of : GroupState → Line → ℕ → List Part → Change
change_of state line now given = by line.command
  where
    by : Command → Change
    by (Pvcreate pv copies) = pvcreate_change state (drawn line) pv copies
    by (Vgcreate vg extent_size pvs) = vgcreate_change state (empty_group (drawn line) vg extent_size) pvs
    by (Vgextend vg pvs) = extend_by state state.group pvs
    by (Vgreduce vg pv) = vgreduce_change state pv
    by (Vgremove vg) = vgremove_change state
    by (Vgrename vg new) = vgrename_change state new
    by (Vgcfgrestore vg text) = vgcfgrestore_change state
    by (Lvcreate new) = lvcreate_change state (drawn line) new now given
    by (Lvextend path growth pvs) = lvextend_change state path.lv given
    by (Lvreduce path amount) = lvreduce_change state path.lv amount
    by (Lvremove path) = lvremove_change state path.lv
    by (Lvrename vg old new) = lvrename_change state old new
    by _ = no_change state
