-- The disks of a scan: their metadata areas, and what of them a scan decides over whatever the areas give.
use Rattle.std.specs.Prelude.{ℕ, ◌+◌, ◌/◌, Bool, false, nat_lt, if◌then◌else◌, Option, Some, None, option_map, unwrap_or, List, [], ◌∷◌}
use Rattle.std.specs.Prelude.{◌++◌, map, filter, filter_map, slice_get}
use Rattle.std.specs.Option.{option_map_or}
use Rattle.std.specs.FinSet as set
use Rattle.std.specs.Ordering.{nat_cmp}
use Rattle.mda_header.specs.declared.entry.HeaderEntry.{HeaderEntry}
use Rattle.mda_header.specs.declared.entry.HeaderEntry.TheVariants.{Ignored, Nothing, Text, Refused}
use Rattle.mda_header.specs.declared.header.Locn.{Locn}
use Rattle.mda_ring.specs.declared.area.Area.{Area}
use Rattle.pv_header.specs.declared.extent_list.Extent.{Extent}
use Rattle.pv_header.specs.declared.header.PvHeader.{PvHeader}
use Rattle.disk_contents.specs.declared.contents.AreaFound.{AreaFound}
use Rattle.disk_contents.specs.declared.contents.PvFound.{PvFound}
use Rattle.disk_contents.specs.declared.contents.PvFound.TheVariants.{NoLabel, NoHeader, Whole}
use Rattle.disk_contents.specs.Standing.{area_on, areas_in}
use Rattle.std.specs.FinMap as map
use Rattle.std.specs.Str.{bytes_eq}
use Rattle.id_index.specs.Ids.{IdNumbers}
use Rattle.meta_model.specs.declared.group.Group.{Group}
use Rattle.meta_model.specs.declared.pv.Pv.{Pv}
use Rattle.scan_rules.specs.Decision.{Area as AreaOf, Found as PvOf, Reading}
use Rattle.vg_found.specs.declared.disk.Disk.{Disk}

-- the header that was found on a disk, if one was
abbrev pub header_in : PvFound → Option PvHeader
header_in (NoLabel refusal) = None
header_in (NoHeader label refusal) = None
header_in (Whole label header areas) = Some header

-- the header of a disk that was read
abbrev pub header_on : Option PvFound → Option PvHeader
header_on None = None
header_on (Some contents) = header_in contents

-- the metadata areas that were found on it
abbrev pub areas_on : Option PvFound → List AreaFound
areas_on None = []
areas_on (Some contents) = areas_in contents

-- ---- the areas of all disks

-- the area with the entry of its committed text, where it isn't ignored
abbrev pub held_by : Area → HeaderEntry → Option (Area × Option Locn)
held_by area Ignored = None
held_by area Nothing = Some (area, None)
held_by area (Text locn) = Some (area, Some locn)
held_by area (Refused refusal) = Some (area, None)

-- the same of an area that was found on this disk
abbrev pub held_area : ℕ → AreaFound → Option (Area × Option Locn)
held_area pv found = held_by (area_on pv found.area) found.entry

-- those of the disks, where the first has this number
abbrev pub held_areas : ℕ → List Disk → List (Area × Option Locn)
held_areas pv [] = []
held_areas pv (disk ∷ disks) = filter_map (held_area pv) (areas_on disk.contents) ++ held_areas (pv + 1) disks

-- ---- what a scan decides over, whatever the areas give

-- an area that a header lists
abbrev pub area_shape : Extent → AreaOf
area_shape area = record { start = area.offset / 512; sectors = area.size / 512; reading = None }

-- a physical volume, by its header
abbrev pub pv_shape : PvHeader → PvOf
pv_shape header = record { id = header.id; areas = map area_shape header.areas }

-- a disk
abbrev pub disk_shape : Disk → Reading
disk_shape disk = record { sectors = disk.sectors; pv = option_map pv_shape (header_on disk.contents) }

-- all disks
abbrev pub shapes : List Disk → List Reading
shapes disks = map disk_shape disks

-- ---- the disks of physical volumes

-- whether the header on a disk has this id
abbrev pub has_header_id : List ℕ → Disk → Bool
has_header_id id disk = unwrap_or (option_map (λ (header : PvHeader). bytes_eq header.id id) (header_on disk.contents)) false

-- the first disk whose header has this id, or the number of disks
abbrev pub disk_with : List Disk → List ℕ → ℕ
disk_with [] id = 0
disk_with (disk ∷ disks) id = if has_header_id id disk then 0 else disk_with disks id + 1

-- those of the physical volumes of a group
abbrev pub disks_of : Group → List Disk → List ℕ
disks_of group disks = map (λ (pv : List ℕ × Pv). disk_with disks pv.1.id) group.pvs

-- ---- old headers

-- whether the header on a disk is of an older version than 2
abbrev pub has_old_header : Disk → Bool
has_old_header disk = unwrap_or (option_map (λ (header : PvHeader). nat_lt header.version 2) (header_on disk.contents)) false

-- whether there is a disk with this number that has such a header
abbrev pub is_old : List Disk → ℕ → Bool
is_old disks number = option_map_or has_old_header (slice_get disks number) false

-- those of these numbers at which there is one
abbrev pub old_among : List Disk → List ℕ → List ℕ
old_among disks numbers = filter (is_old disks) numbers

-- the disks of a group's physical volumes that have such headers; none without a group
abbrev pub old_of : Option Group → List Disk → set.FinSet nat_cmp
old_of None disks = set.empty
old_of (Some group) disks = set.from_list (old_among disks (disks_of group disks))

-- ---- the disks by the ids of their headers

-- the disk's number at the id of its header, where it has one
abbrev pub put_header : ℕ → Option PvHeader → IdNumbers → IdNumbers
put_header number None numbers = numbers
put_header number (Some header) numbers = map.insert numbers header.id number

-- the number of each disk, where the first has this number; of those with one id that of the first
abbrev pub headers_by_id : ℕ → List Disk → IdNumbers
headers_by_id first [] = map.empty
headers_by_id first (disk ∷ disks) = put_header first (header_on disk.contents) (headers_by_id (first + 1) disks)
