-- Which sectors are read as a header on a disk of so many bytes, and why others are refused.
use Rattle.std.specs.Prelude.{◌≡◌, ℕ, ◌+◌, ⊤, Some, None, List, [], ◌∷◌, ◌++◌, slice_range, find, option_map}
use Rattle.lvm_id.specs.LvmId.{IsId, IsFirstMisfit, fits_plain}
use Rattle.pv_header.specs.declared.extent_list.Extent.{Extent}
use Rattle.pv_header.specs.declared.header.PvHeader.{PvHeader}
use Rattle.pv_header.specs.declared.refusal.PvRefusal.{PvRefusal}
use Rattle.pv_header.specs.declared.refusal.PvRefusal.TheVariants.{NoMemory, BadId, ListUnended, AreaOutside, AreaShape, AreasOverlap}
use Rattle.pv_header.specs.declared.refusal.PvRefusal.TheVariants.{Bootloader}
use Rattle.pv_header.specs.Areas.{is_outside, is_misshapen, first_overlap, CanLie}
use Rattle.pv_header.specs.Extents.{IsListAt, IsUnended}
use Rattle.pv_header.specs.PvHeader.{IsPvHeader, after_list}

-- the sector is read as this header
pub record Reads (sector : List ℕ) (disk_bytes : ℕ) (header : PvHeader) : Type 0 where
  pub fields : IsPvHeader sector header []
  pub areas : CanLie header.data_areas header.areas disk_bytes

-- the first list that meets the sector's end before its own: 1 the data areas, 2 the metadata areas, 3 the bootloader areas
pub data IsFirstUnended (sector : List ℕ) : ℕ → Type 0 where
  data_list : IsUnended sector 72 → IsFirstUnended sector 1
  metadata_list : (data_areas : List Extent) → IsListAt sector 72 data_areas
      → IsUnended sector (after_list 72 data_areas) → IsFirstUnended sector 2
  bootloader_list : (data_areas areas : List Extent) → IsListAt sector 72 data_areas → IsListAt sector (after_list 72 data_areas) areas
      → IsUnended sector (after_list (after_list 72 data_areas) areas + 8) → IsFirstUnended sector 3

-- where the two of a pair begin
abbrev pub offsets_of : Extent × Extent → ℕ × ℕ
offsets_of pair = (pair.0.offset, pair.1.offset)

-- why the areas can't lie on the disk; each refusal says that the ones above it don't hold
abbrev pub RefusesAreas : List Extent → List Extent → ℕ → PvRefusal → Type 0
RefusesAreas data_areas areas disk_bytes NoMemory = ⊤
RefusesAreas data_areas areas disk_bytes (AreaOutside offset size bytes) =
    (find (is_outside disk_bytes) (data_areas ++ areas) ≡ Some (record { offset = offset; size = size })) × (bytes ≡ disk_bytes)
RefusesAreas data_areas areas disk_bytes (AreaShape offset size) =
    (find (is_outside disk_bytes) (data_areas ++ areas) ≡ None) × (find is_misshapen areas ≡ Some (record { offset = offset; size = size }))
RefusesAreas data_areas areas disk_bytes (AreasOverlap first second) =
    (find (is_outside disk_bytes) (data_areas ++ areas) ≡ None) × (find is_misshapen areas ≡ None)
    × (option_map offsets_of (first_overlap (data_areas ++ areas) disk_bytes) ≡ Some (first, second))
RefusesAreas data_areas areas disk_bytes _ = ⊥

-- why the list that begins at a place isn't read, by the list's number
abbrev pub RefusesList : List ℕ → ℕ → ℕ → PvRefusal → Type 0
RefusesList sector at number NoMemory = ⊤
RefusesList sector at number (ListUnended list) = (list ≡ number) × IsUnended sector at
RefusesList sector at number _ = ⊥

-- why the id isn't read
abbrev pub RefusesId : List ℕ → PvRefusal → Type 0
RefusesId sector (BadId place) = IsFirstMisfit fits_plain (slice_range sector 32 64) place
RefusesId sector _ = ⊥

-- why the fields aren't read
abbrev pub RefusesFields : List ℕ → PvRefusal → Type 0
RefusesFields sector NoMemory = ⊤
RefusesFields sector (BadId place) = RefusesId sector (BadId place)
RefusesFields sector (ListUnended list) = IsId (slice_range sector 32 64) × IsFirstUnended sector list
RefusesFields sector _ = ⊥

-- why the sector isn't read; each refusal says that the ones above it don't hold. Memory can be wanting at any time.
abbrev pub Refuses : List ℕ → ℕ → PvRefusal → Type 0
Refuses sector disk_bytes NoMemory = ⊤
Refuses sector disk_bytes (BadId place) = RefusesFields sector (BadId place)
Refuses sector disk_bytes (ListUnended list) = RefusesFields sector (ListUnended list)
Refuses sector disk_bytes (Bootloader offset) =
    (header : PvHeader) × (size : ℕ) × (more : List Extent) × IsPvHeader sector header (record { offset = offset; size = size } ∷ more)
    × CanLie header.data_areas header.areas disk_bytes
Refuses sector disk_bytes refusal =
    (header : PvHeader) × (bootloader : List Extent) × IsPvHeader sector header bootloader
    × RefusesAreas header.data_areas header.areas disk_bytes refusal
