-- No set of disks finds an older version of the group once a commit is done.
use Rattle.std.specs.Prelude.{◌≡◌, ◌<◌, ℕ, Bool, true, false, List, length, Contains, Option, None, Some, option_map}
use Rattle.std.specs.FinSet as set
use Rattle.command_table.specs.declared.command.Command.TheVariants.{Vgremove}
use Rattle.lvm_script.specs.declared.line.Line.{Line}
use Rattle.disk_model.specs.CrashValues.{IsImage}
use Rattle.disk_model.specs.Steps.{Image, Record}
use Rattle.meta_model.specs.declared.group.Group.{Group}
use Rattle.extent_alloc.specs.declared.part.Part.{Part}
use Rattle.disk_batch.specs.InTurn.{HasFirstBatches, with_batches}
use Rattle.vg_found.specs.declared.found.Found.{Found}
use Rattle.vg_scan.specs.Scans.{IsScanOf}
use Rattle.group_plan.specs.declared.backup.Backup.{Backup}
use Rattle.group_ops.specs.Laws.{state_in}
use Rattle.group_ops.specs.Planning.{change_of}
use Rattle.vg_change.specs.LineBatches.{batches_of, clears_of}
use Rattle.image_scans.specs.Laws.{CanCarryOut, none_out}
use Rattle.vg_scan.specs.Versions.{FindsVersion, Version}
use Rattle.volume_history.specs.Commands.{commits}
use Rattle.line_history.specs.Histories.{commits_in}
use Rattle.line_history.specs.LineRun.{ClearsLine, Given}

-- once all of a line's batches are written, and disks are cleared behind them, a scan of any of the disks, the others taken as
-- empty, finds no group or the one that was committed
abbrev pub EachSetFinds : Type 0
EachSetFinds =
    (base : Image) (sizes : List ℕ) (found : Found) (names : List (List ℕ)) (backup : Option Backup) (line : Line) (now : ℕ)
    (given : List Part) (group : Group) → CanCarryOut base sizes found names backup line now given
    → (change_of (state_in found names backup) line now given).group ≡ Some group
    → (some : Found) (other : Group) → IsScanOf
    (with_batches (clears_of (state_in found names backup) line now given)
    (with_batches (batches_of (state_in found names backup) line now given) base)) sizes some → some.group ≡ Some other → other ≡ group

-- and once a vgremove has cleared its disks, it finds none
abbrev pub EachSetRemoved : Type 0
EachSetRemoved =
    (base : Image) (sizes : List ℕ) (found : Found) (names : List (List ℕ)) (backup : Option Backup) (line : Line) (now : ℕ)
    (given : List Part) (vg : List ℕ) → CanCarryOut base sizes found names backup line now given → line.command ≡ Vgremove vg
    → (some : Found) → IsScanOf (with_batches (clears_of (state_in found names backup) line now given) base) sizes some → some.group ≡ None

-- each of the disks that were read is one of these
abbrev pub AreMembers : List ℕ → List ℕ → Found → Type 0
AreMembers sizes disks some = (pv : ℕ) → pv < length sizes → set.contains some.unread pv ≡ false → Contains disks pv

-- and while disks are cleared, or where that failed, a scan of any of the disks of the group that was committed finds none or that
abbrev pub EachMemberFinds : Type 0
EachMemberFinds =
    (base image : Image) (sizes : List ℕ) (found : Found) (names : List (List ℕ)) (backup : Option Backup) (line : Line) (now : ℕ)
    (given : List Part) (group : Group) → CanCarryOut base sizes found names backup line now given
    → (change_of (state_in found names backup) line now given).group ≡ Some group
    → HasFirstBatches (clears_of (state_in found names backup) line now given)
    (with_batches (batches_of (state_in found names backup) line now given) base) image
    → (some : Found) (other : Group) → IsScanOf image sizes some
    → AreMembers sizes (change_of (state_in found names backup) line now given).disk_of some → some.group ≡ Some other → other ≡ group

-- in every image that a crash may leave then, a scan of any of the disks finds no group or that of the version which a scan of
-- all of them finds
abbrev pub SetsAgree : List ℕ → Record → Type 0
SetsAgree sizes told =
    (image : Image) → IsImage told image → (version : Option Version) → FindsVersion sizes image none_out version
    → (some : Found) (group : Group) → IsScanOf image sizes some → some.group ≡ Some group
    → option_map (λ (v : Version). v.group) version ≡ Some group

-- in every image that a crash may leave then, where a scan of all disks finds a version, a scan of any of those of its physical
-- volumes finds no group or that of the version
abbrev pub MembersAgree : List ℕ → Record → Type 0
MembersAgree sizes told =
    (image : Image) → IsImage told image → (version : Version) → FindsVersion sizes image none_out (Some version)
    → (some : Found) (group : Group) → IsScanOf image sizes some → AreMembers sizes version.disk_of some → some.group ≡ Some group
    → group ≡ version.group

-- so it is at the end of a run whose line has committed a group, or removed it
abbrev pub DoneSetsAgree : Type 0
DoneSetsAgree = (g : Given) (start ended : Record) → ClearsLine g true start ended → commits g.line.command ≡ true → SetsAgree g.sizes ended

-- and so it is of the disks of the group at the end of one whose line has committed it, whether or not the disks could be cleared that it
-- lets go
abbrev pub MadeMembersAgree : Type 0
MadeMembersAgree =
    (g : Given) (well : Bool) (start ended : Record) → ClearsLine g well start ended → commits_in g ≡ true → MembersAgree g.sizes ended
