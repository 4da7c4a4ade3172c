-- What a scan of the disks finds in every image on the way of a repair.
use Rattle.std.specs.Prelude.{◌≡◌, ℕ, List, None, Some}
use Rattle.sector_base.specs.declared.places.At.{At}
use Rattle.disk_batch.specs.InTurn.{HasFirstBatches, with_batches}
use Rattle.disk_model.specs.Steps.{Image}
use Rattle.meta_model.specs.declared.group.Group.{Group}
use Rattle.volume_view.specs.Places.{primary}
use Rattle.volume_view.specs.View.{at_place}
use Rattle.vg_found.specs.Shape.{HasShape}
use Rattle.vg_found.specs.Whole.{IsWhole}
use Rattle.vg_found.specs.declared.found.Found.{Found}
use Rattle.vg_scan.specs.Scans.{IsScanOf}
use Rattle.vg_repair.specs.Batches.{repair_batches}
use Rattle.vg_repair.specs.Laws.{KeepsImages, StraysAreOthers}
use Rattle.vg_repair.specs.Repaired.{repaired_of}
use Rattle.vg_repair.specs.Stale.{too_large}
use Rattle.image_scans.specs.Laws.{none_out}
use Rattle.vg_scan.specs.Versions.{FindsVersion, version_in}

-- what was found of this image is whole, its text has room in each stale area, and its repair keeps images as one does whose
-- batches were begun
pub record CanRepair (base : Image) (sizes : List ℕ) (found : Found) : Type 0 where
  pub scan : IsScanOf base sizes found
  pub shape : HasShape found
  pub whole : IsWhole found
  pub fits : too_large found ≡ None
  pub keeps : KeepsImages found

-- the version that was found, with the same text
pub record FindsAgain (sizes : List ℕ) (image : Image) (found : Found) : Type 0 where
  pub finds : FindsVersion sizes image none_out (version_in found)
  pub text : finds.found.text ≡ found.text

-- a scan finds no area stale on a stray, and no old disk that is one
abbrev pub ScansFindStraysApart : Type 0
ScansFindStraysApart = (base : Image) (sizes : List ℕ) (found : Found) → IsScanOf base sizes found → StraysAreOthers found

-- every image on the way of a repair, the last one too
abbrev pub RepairsScan : Type 0
RepairsScan =
    (base image : Image) (sizes : List ℕ) (found : Found) → CanRepair base sizes found → HasFirstBatches (repair_batches found) base image
    → FindsAgain sizes image found

-- once all is written, what a scan finds is what a repair hands on
abbrev pub RepairedScans : Type 0
RepairedScans =
    (base : Image) (sizes : List ℕ) (found : Found) → CanRepair base sizes found
    → IsScanOf (with_batches (repair_batches found) base) sizes (repaired_of found)

-- in every image on the way each primary place of a volume of the group that was found has what it has in the base
abbrev pub RepairKeepsPlaces : Type 0
RepairKeepsPlaces =
    (base image : Image) (sizes : List ℕ) (found : Found) (group : Group) → CanRepair base sizes found → found.group ≡ Some group
    → HasFirstBatches (repair_batches found) base image
    → (lv sector : ℕ) (at : At) → primary group lv sector ≡ Some at → at_place image found.disk_of at ≡ at_place base found.disk_of at

-- what is found once a repair is done has the version that was found
abbrev pub RepairKeepsVersion : Type 0
RepairKeepsVersion = (found : Found) → version_in (repaired_of found) ≡ version_in found
