-- What a scan of the disks finds in every image on the way of a line's change, and that volumes keep their contents.
use Rattle.std.specs.Prelude.{◌≡◌, ◌≢◌, ◌<◌, ◌⊎◌, ℕ, ◌^◌, ◌*◌, ◌==◌, Bool, true, false, IsTrue, if◌then◌else◌, List, [], length}
use Rattle.std.specs.Prelude.{take, replicate, slice_index, filter_map, flat_map, map, option_map, All, Option, None, Some}
use Rattle.std.specs.FinSet as set
use Rattle.std.specs.List.{enumerate_from, list_any, range_with_len}
use Rattle.sector_base.specs.Spans.{covers}
use Rattle.sector_base.specs.declared.places.At.{At}
use Rattle.sector_base.specs.declared.spans.Span.{Span}
use Rattle.command_table.specs.Values.{is_disk_name}
use Rattle.command_table.specs.declared.command.Command.TheVariants.{Vgremove}
use Rattle.lvm_script.specs.declared.line.Line.{Line}
use Rattle.disk_model.specs.Steps.{Image}
use Rattle.disk_model.specs.Submitting.{writes_at}
use Rattle.meta_model.specs.declared.group.Group.{Group}
use Rattle.meta_model.specs.declared.lv.Lv.{Lv}
use Rattle.volume_rules.specs.Extents.{extents_of}
use Rattle.volume_view.specs.InExtents.{IsInExtents}
use Rattle.volume_view.specs.Places.{primary}
use Rattle.volume_view.specs.View.{at_place, view}
use Rattle.extent_alloc.specs.declared.part.Part.{Part}
use Rattle.disk_batch.specs.InTurn.{HasFirstBatches, Put, with_batches}
use Rattle.disk_batch.specs.Writes.{write_work}
use Rattle.vg_found.specs.Shape.{HasShape}
use Rattle.vg_found.specs.Whole.{IsWhole}
use Rattle.vg_found.specs.declared.found.Found.{Found}
use Rattle.vg_scan.specs.Scans.{IsScanOf}
use Rattle.group_plan.specs.declared.state.Change.{Change}
use Rattle.group_plan.specs.declared.state.NewLabel.{NewLabel}
use Rattle.group_plan.specs.declared.backup.Backup.{Backup}
use Rattle.lv_plans.specs.Allocating.{Takes}
use Rattle.group_ops.specs.Laws.{state_in}
use Rattle.group_ops.specs.Planning.{IsBackupOf, IsPlanned, asks_of, change_of, refusal_of}
use Rattle.vg_change.specs.LineBatches.{batches_of, clears_of, zeros_of}
use Rattle.vg_change.specs.CarryingOut.{KeepsImages}
use Rattle.vg_scan.specs.Versions.{FindsVersion, Version, version_in}

-- what was found of this image is whole, and nothing is stale or stray on its disks, which have these names; the backup is what
-- the line's text gives, if it restores a group; the line takes these parts, no row refuses it with them at this time, and it
-- keeps images as a line does whose batches were begun
pub record CanCarryOut (base : Image) (sizes : List ℕ) (found : Found) (names : List (List ℕ)) (backup : Option Backup) (line : Line)
    (now : ℕ) (given : List Part) : Type 0 where
  pub scan : IsScanOf base sizes found
  pub shape : HasShape found
  pub whole : IsWhole found
  pub no_stale : found.stale ≡ []
  pub no_strays : found.strays ≡ set.empty
  pub named : length names ≡ length found.disks
  pub names_are : All (λ name. is_disk_name name ≡ true) names
  pub planned : IsPlanned line.id line.command
  pub given_back : IsBackupOf line.command backup
  pub time : now < 2 ^ 48
  pub takes : Takes (asks_of (state_in found names backup) line) given
  pub passes : refusal_of (state_in found names backup) line now given ≡ None
  pub keeps : KeepsImages (state_in found names backup) line now given

-- no disk is left out
abbrev pub none_out : ℕ → Bool
none_out pv = false

-- the disk gets one of these labels
abbrev pub is_labelled : List NewLabel → ℕ → Bool
is_labelled labels pv = list_any (λ (label : NewLabel). label.disk == pv) labels

-- the version that a change makes, where this group is committed
abbrev pub version_of : Group → Change → Version
version_of group change = record { group = group; disk_of = change.disk_of }

-- on the way: the version that was found or the new one; where no group is committed the former, with the disks left out that
-- get a label
abbrev pub FindsOnTheWay : List ℕ → Image → Found → Change → Option Group → Type 0
FindsOnTheWay sizes image found change None = FindsVersion sizes image (is_labelled change.labels) (version_in found)
FindsOnTheWay sizes image found change (Some group) =
    FindsVersion sizes image none_out (version_in found) ⊎ FindsVersion sizes image none_out (Some (version_of group change))

-- once all is written: the new version, or the one that was found where no group is committed
abbrev pub FindsAtEnd : List ℕ → Image → Found → Change → Option Group → Type 0
FindsAtEnd sizes image found change None = FindsVersion sizes image none_out (version_in found)
FindsAtEnd sizes image found change (Some group) = FindsVersion sizes image none_out (Some (version_of group change))

-- ---- the laws

-- the image that was scanned has the version that was found
abbrev pub BaseScans : Type 0
BaseScans =
    (base : Image) (sizes : List ℕ) (found : Found) → IsScanOf base sizes found → IsWhole found
    → FindsVersion sizes base none_out (version_in found)

-- every image on the way of the line's batches
abbrev pub ImagesScan : Type 0
ImagesScan =
    (base image : Image) (sizes : List ℕ) (found : Found) (names : List (List ℕ)) (backup : Option Backup) (line : Line) (now : ℕ)
    (given : List Part) → CanCarryOut base sizes found names backup line now given
    → HasFirstBatches (batches_of (state_in found names backup) line now given) base image
    → FindsOnTheWay sizes image found (change_of (state_in found names backup) line now given)
    (change_of (state_in found names backup) line now given).group

-- every image of a commit whose last batch wasn't begun has the version that was found
abbrev pub UnpublishedScans : Type 0
UnpublishedScans =
    (base image : Image) (sizes : List ℕ) (found : Found) (names : List (List ℕ)) (backup : Option Backup) (line : Line) (now : ℕ)
    (given : List Part) (n : ℕ) (group : Group) → CanCarryOut base sizes found names backup line now given
    → (change_of (state_in found names backup) line now given).group ≡ Some group
    → n < length (batches_of (state_in found names backup) line now given)
    → HasFirstBatches (take n (batches_of (state_in found names backup) line now given)) base image
    → FindsVersion sizes image none_out (version_in found)

-- the image with all of them
abbrev pub LastScans : Type 0
LastScans =
    (base : Image) (sizes : List ℕ) (found : Found) (names : List (List ℕ)) (backup : Option Backup) (line : Line) (now : ℕ)
    (given : List Part) → CanCarryOut base sizes found names backup line now given
    → FindsAtEnd sizes (with_batches (batches_of (state_in found names backup) line now given) base) found
    (change_of (state_in found names backup) line now given) (change_of (state_in found names backup) line now given).group

-- ---- volumes

-- the disk and the sector of the primary place of a sector of a volume
abbrev pub place_of : Group → List ℕ → ℕ → ℕ → Option (ℕ × ℕ)
place_of group disk_of lv sector = option_map (λ (at : At). (slice_index disk_of at.pv, at.sector)) (primary group lv sector)

-- those of all sectors of the volume with this number, where it is visible
abbrev pub places_in : Group → List ℕ → ℕ × (List ℕ × Lv) → List (ℕ × ℕ)
places_in group disk_of lv =
    if lv.1.1.status.visible then filter_map (place_of group disk_of lv.0) (range_with_len 0 (extents_of lv.1.1 * group.extent_size))
    else []

-- those of all visible volumes
abbrev pub visible_places : Group → List ℕ → List (ℕ × ℕ)
visible_places group disk_of = flat_map (places_in group disk_of) (enumerate_from 0 group.lvs)

-- no write of the batch covers the sector of this disk
abbrev pub IsOutside : List Put → ℕ × ℕ → Type 0
IsOutside batch place = writes_at (map write_work batch) place.0 place.1 ≡ false

-- no write of the line covers a primary place of a visible volume of the group that was found
abbrev pub PlacesAreOutside : Type 0
PlacesAreOutside =
    (base : Image) (sizes : List ℕ) (found : Found) (names : List (List ℕ)) (backup : Option Backup) (line : Line) (now : ℕ)
    (given : List Part) (group : Group) → CanCarryOut base sizes found names backup line now given → found.group ≡ Some group
    → All (λ (batch : List Put). All (IsOutside batch) (visible_places group found.disk_of))
    (batches_of (state_in found names backup) line now given)

-- so in every image on the way each such place has what it has in the base
abbrev pub PlacesAreKept : Type 0
PlacesAreKept =
    (base image : Image) (sizes : List ℕ) (found : Found) (names : List (List ℕ)) (backup : Option Backup) (line : Line) (now : ℕ)
    (given : List Part) (group : Group) → CanCarryOut base sizes found names backup line now given → found.group ≡ Some group
    → HasFirstBatches (batches_of (state_in found names backup) line now given) base image
    → (lv sector : ℕ) (at : At) → primary group lv sector ≡ Some at → at_place image found.disk_of at ≡ at_place base found.disk_of at

-- and its visible volumes have their contents
abbrev pub ViewIsKept : Type 0
ViewIsKept =
    (base image : Image) (sizes : List ℕ) (found : Found) (names : List (List ℕ)) (backup : Option Backup) (line : Line) (now : ℕ)
    (given : List Part) (group : Group) → CanCarryOut base sizes found names backup line now given → found.group ≡ Some group
    → HasFirstBatches (batches_of (state_in found names backup) line now given) base image
    → view image group found.disk_of ≡ view base group found.disk_of

-- ---- zeros

-- the sector of the disk does
pub record LiesInExtents (group : Group) (disk_of : List ℕ) (disk sector : ℕ) : Type 0 where
  pub at : At
  pub disk_is : slice_index disk_of at.pv ≡ disk
  pub sector_is : at.sector ≡ sector
  pub extents : IsInExtents group at

-- and is no primary place of a volume
pub record IsFree (group : Group) (disk_of : List ℕ) (disk sector : ℕ) : Type 0 where
  pub lies : LiesInExtents group disk_of disk sector
  pub free : (lv other : ℕ) (place : At) → primary group lv other ≡ Some place → slice_index disk_of place.pv ≡ disk → place.sector ≢ sector

-- whether the sector of the disk is in one of the spans
abbrev pub in_spans : List Span → ℕ → ℕ → Bool
in_spans spans disk sector = list_any (λ (span : Span). covers span disk sector) spans

-- each sector that the change zeroes is free in the group that was found
abbrev pub ZeroesLie : Found → Change → Type 0
ZeroesLie found change =
    (disk sector : ℕ) → IsTrue (in_spans change.zero disk sector)
    → (group : Group) × (found.group ≡ Some group) × IsFree group found.disk_of disk sector

-- so it is of a line
abbrev pub LineZeroesLie : Type 0
LineZeroesLie =
    (base : Image) (sizes : List ℕ) (found : Found) (names : List (List ℕ)) (backup : Option Backup) (line : Line) (now : ℕ)
    (given : List Part) → CanCarryOut base sizes found names backup line now given
    → ZeroesLie found (change_of (state_in found names backup) line now given)

-- every image on the way of the zeros: a scan finds the same as before
abbrev pub ZeroesScan : Type 0
ZeroesScan =
    (base image : Image) (sizes : List ℕ) (found : Found) (names : List (List ℕ)) (backup : Option Backup) (line : Line) (now : ℕ)
    (given : List Part) → CanCarryOut base sizes found names backup line now given
    → HasFirstBatches (zeros_of (state_in found names backup) line now given) base image → IsScanOf image sizes found

-- and each primary place of a volume has what it has in the base
abbrev pub ZeroesKeepPlaces : Type 0
ZeroesKeepPlaces =
    (base image : Image) (sizes : List ℕ) (found : Found) (names : List (List ℕ)) (backup : Option Backup) (line : Line) (now : ℕ)
    (given : List Part) (group : Group) → CanCarryOut base sizes found names backup line now given → found.group ≡ Some group
    → HasFirstBatches (zeros_of (state_in found names backup) line now given) base image
    → (lv sector : ℕ) (at : At) → primary group lv sector ≡ Some at → at_place image found.disk_of at ≡ at_place base found.disk_of at

-- in every image on the way of the batches behind them each sector of the zeros has them
abbrev pub ZeroesAreKept : Type 0
ZeroesAreKept =
    (base image : Image) (sizes : List ℕ) (found : Found) (names : List (List ℕ)) (backup : Option Backup) (line : Line) (now : ℕ)
    (given : List Part) → CanCarryOut base sizes found names backup line now given
    → HasFirstBatches (batches_of (state_in found names backup) line now given)
    (with_batches (zeros_of (state_in found names backup) line now given) base) image
    → (disk sector : ℕ) → IsTrue (in_spans (change_of (state_in found names backup) line now given).zero disk sector)
    → image disk sector ≡ replicate 512 0

-- ---- disks that are cleared

-- every image while disks are cleared behind a commit has the new version
abbrev pub ClearsScan : Type 0
ClearsScan =
    (base image : Image) (sizes : List ℕ) (found : Found) (names : List (List ℕ)) (backup : Option Backup) (line : Line) (now : ℕ)
    (given : List Part) (group : Group) → CanCarryOut base sizes found names backup line now given
    → (change_of (state_in found names backup) line now given).group ≡ Some group
    → HasFirstBatches (clears_of (state_in found names backup) line now given)
    (with_batches (batches_of (state_in found names backup) line now given) base) image
    → FindsVersion sizes image none_out (Some (version_of group (change_of (state_in found names backup) line now given)))

-- and each primary place of the group that was found has what it had before, whatever that is
abbrev pub ClearsKeepPlaces : Type 0
ClearsKeepPlaces =
    (base mid image : Image) (sizes : List ℕ) (found : Found) (names : List (List ℕ)) (backup : Option Backup) (line : Line) (now : ℕ)
    (given : List Part) (group : Group) → CanCarryOut base sizes found names backup line now given → found.group ≡ Some group
    → HasFirstBatches (clears_of (state_in found names backup) line now given) mid image
    → (lv sector : ℕ) (at : At) → primary group lv sector ≡ Some at → at_place image found.disk_of at ≡ at_place mid found.disk_of at

-- every image while a vgremove clears the disks of the group has the version that was found, or none
abbrev pub RemovalScans : Type 0
RemovalScans =
    (base image : Image) (sizes : List ℕ) (found : Found) (names : List (List ℕ)) (backup : Option Backup) (line : Line) (now : ℕ)
    (given : List Part) (vg : List ℕ) → CanCarryOut base sizes found names backup line now given → line.command ≡ Vgremove vg
    → HasFirstBatches (clears_of (state_in found names backup) line now given) base image
    → FindsVersion sizes image none_out (version_in found) ⊎ FindsVersion sizes image none_out None

-- and once all is written there is none
abbrev pub RemovedScans : Type 0
RemovedScans =
    (base : Image) (sizes : List ℕ) (found : Found) (names : List (List ℕ)) (backup : Option Backup) (line : Line) (now : ℕ)
    (given : List Part) (vg : List ℕ) → CanCarryOut base sizes found names backup line now given → line.command ≡ Vgremove vg
    → FindsVersion sizes (with_batches (clears_of (state_in found names backup) line now given) base) none_out None
