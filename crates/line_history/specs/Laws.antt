-- What a line and the images on its way give of histories.
use Rattle.std.specs.Prelude.{◌≡◌, ℕ, List, Some, Option}
use Rattle.sector_base.specs.declared.places.At.{At}
use Rattle.lvm_script.specs.declared.line.Line.{Line}
use Rattle.disk_model.specs.CrashValues.{IsImage}
use Rattle.disk_model.specs.Record.{IsRecord}
use Rattle.disk_model.specs.Steps.{Image, Record}
use Rattle.meta_model.specs.declared.group.Group.{Group}
use Rattle.volume_view.specs.Places.{primary}
use Rattle.volume_view.specs.View.{at_place}
use Rattle.extent_alloc.specs.declared.part.Part.{Part}
use Rattle.vg_found.specs.Shape.{HasShape}
use Rattle.vg_found.specs.declared.found.Found.{Found}
use Rattle.vg_scan.specs.Scans.{IsScanOf}
use Rattle.group_plan.specs.declared.backup.Backup.{Backup}
use Rattle.group_ops.specs.Laws.{state_in}
use Rattle.group_ops.specs.Planning.{change_of}
use Rattle.image_scans.specs.Laws.{CanCarryOut, version_of}
use Rattle.vg_scan.specs.Versions.{version_in}
use Rattle.volume_history.specs.Placed.{volumes_of}
use Rattle.volume_history.specs.Quiet.{AllUntouched}
use Rattle.volume_history.specs.Changing.{ChangesVolumes}

-- the version that a line commits has the volumes that its command makes of those that were found
abbrev pub CommitChangesVolumes : Type 0
CommitChangesVolumes =
    (base : Image) (sizes : List ℕ) (found : Found) (names : List (List ℕ)) (backup : Option Backup) (line : Line) (now : ℕ)
    (given : List Part) (group : Group) → CanCarryOut base sizes found names backup line now given
    → (change_of (state_in found names backup) line now given).group ≡ Some group
    → ChangesVolumes line.command (version_in found) (Some (version_of group (change_of (state_in found names backup) line now given)))

-- where every image that a crash may leave has at each primary place of the found group what the base has, the places of its
-- volumes are untouched
abbrev pub PlacesUntouched : Type 0
PlacesUntouched =
    (base : Image) (sizes : List ℕ) (found : Found) (told : Record) → IsScanOf base sizes found → HasShape found → IsRecord told.steps
    → ((image : Image) → IsImage told image → (group : Group) → found.group ≡ Some group → (lv sector : ℕ) (at : At)
    → primary group lv sector ≡ Some at → at_place image found.disk_of at ≡ at_place base found.disk_of at)
    → AllUntouched base (volumes_of (version_in found)) told
