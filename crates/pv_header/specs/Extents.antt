-- Lists of areas in a sector, as lvm2's on-disk format has them: pairs of an offset and a size in bytes (struct
-- disk_locn), ended by a pair whose offset is 0.
use Rattle.std.specs.Prelude.{◌≡◌, ◌≢◌, ℕ, ◌+◌, ◌*◌, ◌^◌, ◌≤◌, ◌<◌, Some, List, ◌++◌, length, slice_get, All}
use Rattle.std.specs.List.{flat_map}
use Rattle.byteorder.specs.Endian.{little_bytes}
use Rattle.sector_base.specs.Fields.{field}
use Rattle.pv_header.specs.declared.extent_list.Extent.{Extent}

-- the area whose offset and size stand at a place
unfoldable pub extent_at : List ℕ → ℕ → Extent
extent_at sector place = record { offset = field 8 sector place; size = field 8 sector (place + 8) }

-- the list that begins at a place: its pairs stand one after another, with no offset 0, the eight bytes after the last
-- pair are 0, and all of this lies in the sector
pub record IsListAt (sector : List ℕ) (at : ℕ) (list : List Extent) : Type 0 where
  pub within : at + 16 * length list + 8 ≤ 512
  pub pairs : (k : ℕ) → k < length list → slice_get list k ≡ Some (extent_at sector (at + 16 * k))
  pub offsets : All (λ area. area.offset ≢ 0) list
  pub ended : field 8 sector (at + 16 * length list) ≡ 0

-- the list that begins at a place meets the sector's end before its own: no offset that lies in the sector is 0
abbrev pub IsUnended : List ℕ → ℕ → Type 0
IsUnended sector at = (k : ℕ) → at + 16 * k + 8 ≤ 512 → field 8 sector (at + 16 * k) ≢ 0

-- the pair of an area: its offset and its size
unfoldable pub pair_bytes : Extent → List ℕ
pair_bytes area = little_bytes 8 area.offset ++ little_bytes 8 area.size

-- the pairs of these areas, one after another
unfoldable pub list_bytes : List Extent → List ℕ
list_bytes list = flat_map pair_bytes list

-- an area whose numbers have 64 bits
abbrev pub Fits64 : Extent → Type 0
Fits64 area = (area.offset < 2 ^ 64) × (area.size < 2 ^ 64)
