-- Versions of the group, and what a scan of an image of the disks finds.
use Rattle.std.specs.Prelude.{◌≡◌, ◌<◌, ℕ, Bool, List, [], length, Option, option_map}
use Rattle.std.specs.FinSet as set
use Rattle.disk_model.specs.Steps.{Image}
use Rattle.meta_model.specs.declared.group.Group.{Group}
use Rattle.vg_found.specs.Disks.{disks_of}
use Rattle.vg_found.specs.declared.found.Found.{Found}
use Rattle.vg_scan.specs.Scans.{IsScanOf}

-- a version of the group: the group, and the disk of each of its physical volumes
pub record Version : Type 0 where
  pub group : Group
  pub disk_of : List ℕ

-- the version that a scan found, if there is a group
abbrev pub version_in : Found → Option Version
version_in found = option_map (λ (group : Group). record { group = group; disk_of = disks_of group found.disks }) found.group

-- a scan of the disks of this image, those that are left out taken as empty, finds this version with each of its physical
-- volumes, or finds no group
pub record FindsVersion (sizes : List ℕ) (image : Image) (left_out : ℕ → Bool) (version : Option Version) : Type 0 where
  pub found : Found
  pub scan : IsScanOf image sizes found
  pub left : (pv : ℕ) → pv < length sizes → set.contains found.unread pv ≡ left_out pv
  pub whole : found.missing ≡ []
  pub version_is : version_in found ≡ version
