-- The physical volumes that a line adds to a group.
use Rattle.std.specs.Prelude.{ℕ, ◌-◌, ◌/◌, ◌^◌, ◌<◌, ◌≤◌, List, filter_map, map, Option, None, Some, option_map, slice_get, true, false}
use Rattle.std.specs.Option.{option_and_then}
use Rattle.command_table.specs.Options.{number_named}
use Rattle.pv_header.specs.declared.header.PvHeader.{PvHeader}
use Rattle.pv_header.specs.DataSectors.{data_end_of, data_start_of}
use Rattle.meta_model.specs.declared.pv.Pv.{Pv}
use Rattle.disk_contents.specs.declared.contents.PvFound.{PvFound}
use Rattle.disk_contents.specs.declared.contents.PvFound.TheVariants.{NoLabel, NoHeader, Whole}
use Rattle.vg_found.specs.declared.disk.Disk.{Disk}
use Rattle.group_plan.specs.Marks.{used}
use Rattle.group_plan.specs.declared.added.AddedPv.{AddedPv}
use Rattle.group_plan.specs.declared.state.GroupState.{GroupState}
use Rattle.group_plan.specs.declared.state.NewLabel.{NewLabel}

-- the label's sector and the header, where a physical volume was found
abbrev pub pv_in : PvFound → Option (ℕ × PvHeader)
pv_in (NoLabel refusal) = None
pv_in (NoHeader label refusal) = None
pv_in (Whole label header areas) = Some (label, header)

-- the physical volume on the disk with this name and number, where it holds one
abbrev pub added_on : List ℕ → ℕ → Disk → Option AddedPv
added_on name number disk =
    option_map
    (λ (pv : ℕ × PvHeader). record { disk = number; name = name; sectors = disk.sectors; label = pv.0; header = pv.1 })
    (option_and_then pv_in disk.contents)

-- the same of the disk with this number, where there is one
abbrev pub added_at : GroupState → List ℕ → ℕ → Option AddedPv
added_at state name number = option_and_then (added_on name number) (slice_get state.disks number)

-- the physical volume on the disk with this name
unfoldable pub added_named : GroupState → List ℕ → Option AddedPv
added_named state name = option_and_then (added_at state name) (number_named state.names name)

-- those on the disks with these names, in their order
abbrev pub added_of : GroupState → List (List ℕ) → List AddedPv
added_of state names = filter_map (added_named state) names

-- their disks
abbrev pub disks_added : List AddedPv → List ℕ
disks_added all = map (λ (added : AddedPv). added.disk) all

-- where the data of one begins
abbrev pub data_start : AddedPv → ℕ
data_start added = data_start_of added.header.data_areas added.sectors

-- where they end
abbrev pub data_end : AddedPv → ℕ
data_end added = data_end_of added.header.data_areas added.header.areas added.sectors

-- it is on one of 64 disks, of at most 2^40 sectors, and its data begin and end there
pub record IsAdded (added : AddedPv) : Type 0 where
  pub disk_below : added.disk < 64
  pub most : added.sectors ≤ 2 ^ 40
  pub starts : data_start added ≤ added.sectors
  pub ends : data_end added ≤ added.sectors

-- what it is in a group with extents of so many sectors: its header's id, its disk's name as a hint, all of its disk's
-- sectors, and the whole extents that fit between its data's start and its data's end
abbrev pub pv_of : ℕ → AddedPv → Pv
pv_of extent_size added = record {
  id = added.header.id;
  device = added.name;
  allocatable = true;
  missing = false;
  dev_size = added.sectors;
  pe_start = data_start added;
  pe_count = (data_end added - data_start added) / extent_size;
}

-- its label as it is written: with version 2, and the mark that a group uses it
abbrev pub label_of : AddedPv → NewLabel
label_of added = record { disk = added.disk; sector = added.label; header = used added.header }
