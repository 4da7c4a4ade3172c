-- What the readings of disks come to.
use Rattle.std.specs.Prelude.{◌≡◌, ℕ, List, [], Option, None, Some}
use Rattle.std.specs.FinSet as set
use Rattle.std.specs.Ordering.{nat_cmp}
use Rattle.meta_model.specs.declared.group.Group.{Group}
use Rattle.scan_rules.specs.Decision.{Reading, decide_scan}
use Rattle.vg_found.specs.declared.disk.Disk.{Disk}
use Rattle.vg_found.specs.declared.found.Found.{Found}
use Rattle.vg_found.specs.Disks.{disks_of, held_areas}
use Rattle.vg_found.specs.Shape.{HasShape}
use Rattle.vg_scan.specs.Scans.{IsFoundBy}

-- the disks of a group's physical volumes; none without a group
abbrev pub listed_disks : Option Group → List Disk → List ℕ
listed_disks None disks = []
listed_disks (Some group) disks = disks_of group disks

-- what was found is what these readings come to, of these disks
pub record IsOutcome (disks : List Disk) (unread : set.FinSet nat_cmp) (readings : List Reading) (found : Found) : Type 0 where
  pub disks_are : found.disks ≡ disks
  pub unread_are : found.unread ≡ unread
  pub answer : IsFoundBy (decide_scan readings) found
  pub areas : found.areas ≡ held_areas 0 disks
  pub shape : HasShape found
