-- Which changes can be written.
use Rattle.std.specs.Prelude.{◌≡◌, ◌≢◌, ◌≤◌, ◌<◌, ◌+◌, ◌/◌, ◌^◌, ℕ, List, length, map, slice_index_or, All, AllPairs, Option, Some, None}
use Rattle.sector_base.specs.declared.spans.Span.{Span}
use Rattle.pv_header.specs.declared.extent_list.Extent.{Extent}
use Rattle.mda_header.specs.declared.header.Locn.{Locn}
use Rattle.mda_ring.specs.declared.area.Area.{Area}
use Rattle.conf_text.specs.Printed.{printed}
use Rattle.meta_model.specs.declared.group.Group.{Group}
use Rattle.meta_print.specs.Layout.{tree_of}
use Rattle.disk_batch.specs.InTurn.{ShareNoSector}
use Rattle.disk_batch.specs.Writes.{LieIn}
use Rattle.vg_found.specs.declared.disk.Disk.{Disk}
use Rattle.vg_commit.specs.Plans.{HeadersRead}
use Rattle.vg_commit.specs.Preparing.{AreCommitted, AreWithin}
use Rattle.vg_commit.specs.TooLarge.{first_too_large}
use Rattle.group_plan.specs.Judging.{set_of}
use Rattle.group_plan.specs.declared.state.Change.{Change}
use Rattle.group_plan.specs.declared.state.NewLabel.{NewLabel}
use Rattle.change_batches.specs.Batches.{areas_of, zero_put}

-- a label for one of the first four sectors of one of 64 disks, whose lists fit behind it
pub record CanLabel (label : NewLabel) : Type 0 where
  pub disk_below : label.disk < 64
  pub sector_below : label.sector < 4
  pub fits : length label.header.data_areas + length label.header.areas ≤ 24

-- the sector where its header stands
abbrev pub header_sector : Extent → ℕ
header_sector area = area.offset / 512

-- a text that has room in each of the areas, on some of 64 disks
pub record CanTakeText (change : Change) (areas : List (Area × Option Locn)) (text : List ℕ) : Type 0 where
  pub listed : All (λ (pv : ℕ). pv < 64) change.disk_of
  pub committed : AreCommitted (areas_of change areas) (set_of change.disk_of)
  pub room : first_too_large text (areas_of change areas) ≡ None

-- a change whose batches can be made, on disks with these areas, at this time
pub record CanMake (areas : List (Area × Option Locn)) (change : Change) (now : ℕ) : Type 0 where
  pub labels : All CanLabel change.labels
  pub commit : (group : Group) → change.group ≡ Some group → CanTakeText change areas (printed (tree_of group now))

-- the sector is one of its disk, where the disks have these sizes
pub record IsOnDisk (sizes : List ℕ) (pv sector : ℕ) : Type 0 where
  pub disk : pv < length sizes
  pub within : sector < slice_index_or sizes pv 0

-- the label's sector is one of its disk
abbrev pub LabelLies : List ℕ → NewLabel → Type 0
LabelLies sizes label = IsOnDisk sizes label.disk label.sector

-- the headers of its areas are sectors of the disk, all different
pub record AreasLie (sizes : List ℕ) (label : NewLabel) : Type 0 where
  pub lie : All (λ (area : Extent). IsOnDisk sizes label.disk (header_sector area)) label.header.areas
  pub differ : AllPairs (λ (a b : Extent). header_sector a ≢ header_sector b) label.header.areas

-- the zeros lie in disks of these sizes, and no two spans of them share a sector
pub record ZeroesLieOn (sizes : List ℕ) (zero : List Span) : Type 0 where
  pub lie : LieIn sizes (map zero_put zero)
  pub apart : ShareNoSector (map zero_put zero)

-- all that it writes lies in disks of these sizes, and no two labels are on one disk
pub record LiesOn (sizes : List ℕ) (areas : List (Area × Option Locn)) (change : Change) : Type 0 where
  pub labels : All (LabelLies sizes) change.labels
  pub differ : AllPairs (λ (a b : NewLabel). a.disk ≢ b.disk) change.labels
  pub new_areas : change.group ≡ None → All (AreasLie sizes) change.labels
  pub commit : (group : Group) → change.group ≡ Some group → AreWithin sizes (areas_of change areas) (set_of change.disk_of)

-- the numbers of the header behind the label have 64 and 32 bits, as their fields have
pub record FitsFields (label : NewLabel) : Type 0 where
  pub device : label.header.device_bytes < 2 ^ 64
  pub flags : label.header.flags < 2 ^ 32

-- the numbers behind each label fit their fields, and both headers that are written to each area of the group are read again as
-- they are
pub record IsReadAgain (areas : List (Area × Option Locn)) (change : Change) (now : ℕ) : Type 0 where
  pub labels : All FitsFields change.labels
  pub commit : (group : Group) → change.group ≡ Some group → All (HeadersRead (printed (tree_of group now))) (areas_of change areas)

-- how many sectors these disks have
abbrev pub sizes_of : List Disk → List ℕ
sizes_of disks = map (λ (disk : Disk). disk.sectors) disks
