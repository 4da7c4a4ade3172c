-- What holds of all that a scan finds, whatever stands on the disks.
use Rattle.std.specs.Prelude.{◌≡◌, ◌≤◌, ◌<◌, ◌↔◌, ℕ, ◌^◌, true, Option, Some, None, slice_get, length, All, AllPairs}
use Rattle.std.specs.Prelude.{IfSome}
use Rattle.std.specs.FinSet as set
use Rattle.std.specs.Ordering.{nat_cmp}
use Rattle.mda_ring.specs.Areas.{CanTake, LieApart}
use Rattle.disk_contents.specs.declared.contents.PvFound.{PvFound}
use Rattle.disk_contents.specs.Standing.{CanStand}
use Rattle.scan_rules.specs.Decision.{first_duplicate, first_misplaced, ids_from}
use Rattle.scan_rules.specs.Found.{missing_of}
use Rattle.vg_found.specs.declared.disk.Disk.{Disk}
use Rattle.vg_found.specs.declared.found.Found.{Found}
use Rattle.vg_found.specs.Disks.{disks_of, held_areas, old_of, shapes}

-- what was found on a disk of so many sectors can stand there
abbrev pub ContentsCanStand : ℕ → ℕ → Option PvFound → Type 0
ContentsCanStand pv sectors None = Unit {0}
ContentsCanStand pv sectors (Some contents) = CanStand pv sectors contents

-- a disk of 8 to 2^40 sectors, on which that can stand which was found
pub record IsDisk (pv : ℕ) (disk : Disk) : Type 0 where
  pub least : 8 ≤ disk.sectors
  pub most : disk.sectors ≤ 2 ^ 40
  pub contents : ContentsCanStand pv disk.sectors disk.contents

-- the disk is unread exactly where it is named so
abbrev pub IsUnread : set.FinSet nat_cmp → ℕ → Disk → Type 0
IsUnread unread pv disk = (disk.contents ≡ None) ↔ (set.contains unread pv ≡ true)

-- what was found, whatever the shelf tells
pub record HasShape (found : Found) : Type 0 where
  -- 1 to 64 disks, each with what can stand there
  pub some : 1 ≤ length found.disks
  pub few : length found.disks ≤ 64
  pub disks : (pv : ℕ) (disk : Disk) → slice_get found.disks pv ≡ Some disk → IsDisk pv disk × IsUnread found.unread pv disk
  -- their headers' ids differ
  pub differ : first_duplicate (ids_from 0 (shapes found.disks)) ≡ None
  -- the areas are those of the headers that aren't ignored; the next text can be placed in each, and no two share a sector
  pub areas : found.areas ≡ held_areas 0 found.disks
  pub take : All CanTake found.areas
  pub apart : AllPairs LieApart found.areas
  -- the extents of each physical volume of the group lie in its disk, and meet neither sectors 0 to 7 nor a metadata area
  pub placed : IfSome found.group (λ group. first_misplaced group (shapes found.disks) ≡ None)
  -- where its physical volumes are, and which are missing
  pub disk_of : IfSome found.group (λ group. found.disk_of ≡ disks_of group found.disks)
  pub missing : IfSome found.group (λ group. found.missing ≡ missing_of (shapes found.disks) group.pvs)
  -- and which of their disks have old headers
  pub old : found.old ≡ old_of found.group found.disks
  -- each disk that is named is one of them
  pub stale : All (λ area. area.0 < length found.disks) found.stale
  pub strays : (pv : ℕ) → set.contains found.strays pv ≡ true → pv < length found.disks
  pub unread : (pv : ℕ) → set.contains found.unread pv ≡ true → pv < length found.disks
