-- pvcreate(8): the rows of its refusals, and its change.
use Rattle.std.specs.Prelude.{ℕ, ◌*◌, ◌-◌, ◌||◌, ◌==◌, Bool, false, nat_lt, if◌then◌else◌, List, [], ◌∷◌, Option, None, Some, unwrap_or}
use Rattle.std.specs.Prelude.{slice_get}
use Rattle.std.specs.Option.{option_and_then, option_map_or}
use Rattle.std.specs.FinSet as set
use Rattle.command_table.specs.Options.{number_named}
use Rattle.line_answers.specs.declared.op_refusal.OpRefusal.{OpRefusal}
use Rattle.line_answers.specs.declared.op_refusal.OpRefusal.TheVariants.{IdTaken, PvUsed, TooSmall, UnknownPv}
use Rattle.pv_header.specs.declared.extent_list.Extent.{Extent}
use Rattle.pv_header.specs.declared.header.PvHeader.{PvHeader}
use Rattle.meta_model.specs.declared.group.Group.{Group}
use Rattle.disk_contents.specs.declared.contents.PvFound.{PvFound}
use Rattle.disk_contents.specs.declared.contents.PvFound.TheVariants.{NoLabel, NoHeader, Whole}
use Rattle.vg_found.specs.declared.disk.Disk.{Disk}
use Rattle.group_plan.specs.Ids.{has_any_id}
use Rattle.group_plan.specs.Judging.{refused_if, set_of, stands_on_disk}
use Rattle.group_plan.specs.declared.state.Change.{Change}
use Rattle.group_plan.specs.declared.state.GroupState.{GroupState}
use Rattle.group_plan.specs.declared.state.NewLabel.{NewLabel}

-- the fewest sectors of a disk for it, with so many copies of the metadata
abbrev pub fewest_sectors : ℕ → ℕ
fewest_sectors copies = if copies == 2 then 4096 else 2056

-- the group lists the disk with this number
abbrev pub is_listed : GroupState → ℕ → Bool
is_listed state number = option_map_or (λ (group : Group). set.contains (set_of state.disk_of) number) state.group false

-- the group, where there is one, has the id
abbrev pub group_has : List ℕ → Option Group → Bool
group_has id group = option_map_or (λ (g : Group). has_any_id g id) group false

-- the disk has too few sectors
abbrev pub few_row : ℕ → Disk → Option OpRefusal
few_row copies disk = refused_if (nat_lt disk.sectors (fewest_sectors copies)) (TooSmall disk.sectors (fewest_sectors copies))

-- the disk with this number is listed, or has too few sectors; or the drawn id stands in the group or on a disk
abbrev pub disk_rows : GroupState → List ℕ → List ℕ → ℕ → ℕ → Option Disk → List (Option OpRefusal)
disk_rows state id name copies number disk =
    refused_if (is_listed state number) (PvUsed name)
    ∷ option_and_then (few_row copies) disk
    ∷ refused_if (group_has id state.group || stands_on_disk id state.disks) (IdTaken id)
    ∷ []

-- no disk has the name, or the rows on it
abbrev pub pvcreate_rows : GroupState → List ℕ → List ℕ → ℕ → List (Option OpRefusal)
pvcreate_rows state id name copies = by (number_named state.names name)
  where
    by : Option ℕ → List (Option OpRefusal)
    by None = Some (UnknownPv name) ∷ []
    by (Some number) = disk_rows state id name copies number (slice_get state.disks number)

-- the sector of the label that was found
abbrev pub label_in : PvFound → Option ℕ
label_in (NoLabel refusal) = None
label_in (NoHeader label refusal) = Some label
label_in (Whole label header areas) = Some label

-- the sector of the label on a disk, 1 where none was found
abbrev pub label_sector : Disk → ℕ
label_sector disk = unwrap_or (option_and_then label_in disk.contents) 1

-- the metadata area in front of the data, behind the first eight sectors
abbrev pub first_area : Extent
first_area = record { offset = 4096; size = 1044480 }

-- the one at the end of a disk of so many sectors
abbrev pub last_area : ℕ → Extent
last_area sectors = record { offset = sectors * 512 - 1044480; size = 1044480 }

-- the metadata areas for so many copies of the metadata: none, the first one, or both
abbrev pub new_areas : ℕ → ℕ → List Extent
new_areas sectors copies = if copies == 0 then [] else first_area ∷ (if copies == 2 then last_area sectors ∷ [] else [])

-- a header on a disk of so many sectors: all from the first mebibyte on holds data
abbrev pub new_header : List ℕ → ℕ → ℕ → PvHeader
new_header id sectors copies = record {
  id = id;
  device_bytes = sectors * 512;
  data_areas = record { offset = 1048576; size = 0 } ∷ [];
  areas = new_areas sectors copies;
  version = 2;
  flags = 0;
}

-- the label of the disk with this number
abbrev pub new_label : List ℕ → ℕ → ℕ → Disk → NewLabel
new_label id copies number disk = record { disk = number; sector = label_sector disk; header = new_header id disk.sectors copies }

-- the label on the disk with this name
abbrev pub new_labels : GroupState → List ℕ → List ℕ → ℕ → List NewLabel
new_labels state id name copies =
    option_map_or (λ number. option_map_or (λ disk. new_label id copies number disk ∷ []) (slice_get state.disks number) [])
    (number_named state.names name) []

-- the group stays, and one label is written
abbrev pub pvcreate_change : GroupState → List ℕ → List ℕ → ℕ → Change
pvcreate_change state id name copies =
    record {
      group = None;
      zero = [];
      labels = new_labels state id name copies;
      taken = set.empty;
      cleared = set.empty;
      disk_of = state.disk_of;
    }
