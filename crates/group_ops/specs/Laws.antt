-- Laws of what lines are judged against, and of what they give.
use Rattle.std.specs.Prelude.{◌≡◌, ℕ, true, List, length, Option, None, All, IfSome}
use Rattle.command_table.specs.Values.{is_disk_name}
use Rattle.lvm_script.specs.declared.line.Line.{Line}
use Rattle.meta_model.specs.declared.group.Group.{Group}
use Rattle.extent_alloc.specs.declared.part.Part.{Part}
use Rattle.scan_rules.specs.Decision.{first_misplaced}
use Rattle.vg_found.specs.declared.disk.Disk.{Disk}
use Rattle.vg_found.specs.Disks.{shapes}
use Rattle.vg_found.specs.Shape.{HasShape}
use Rattle.vg_found.specs.Whole.{IsWhole}
use Rattle.vg_found.specs.declared.found.Found.{Found}
use Rattle.group_plan.specs.State.{IsState}
use Rattle.group_plan.specs.declared.backup.Backup.{Backup}
use Rattle.group_plan.specs.declared.state.GroupState.{GroupState}
use Rattle.group_ops.specs.Planning.{change_of, refusal_of}

-- what was found, with names for the disks, and what the text of the line gives, if it has one to restore a group from
abbrev pub state_in : Found → List (List ℕ) → Option Backup → GroupState
state_in found names backup =
    record { group = found.group; disks = found.disks; names = names; areas = found.areas; disk_of = found.disk_of; backup = backup }

-- where it is whole, and each disk has a name, lines may be judged against it
abbrev pub WholeIsState : Type 0
WholeIsState =
    (found : Found) (names : List (List ℕ)) (backup : Option Backup) → HasShape found → IsWhole found → length names ≡ length found.disks
    → All (λ name. is_disk_name name ≡ true) names → IsState (state_in found names backup)

-- the extents of each physical volume of the group, where there is one, lie in its disk, and meet neither sectors 0 to 7 nor
-- a metadata area
abbrev pub ArePlaced : List Disk → Option Group → Type 0
ArePlaced disks group = IfSome group (λ g. first_misplaced g (shapes disks) ≡ None)

-- where the physical volumes of the group in force are placed so, those of the group that a line gives are, where nothing
-- refuses it
abbrev pub ChangeIsPlaced : Type 0
ChangeIsPlaced =
    (state : GroupState) (line : Line) (now : ℕ) (given : List Part) → IsState state → refusal_of state line now given ≡ None
    → ArePlaced state.disks state.group → ArePlaced state.disks (change_of state line now given).group
