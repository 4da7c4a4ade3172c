-- The physical volume header of lvm2's on-disk format, which follows the label in its sector (struct pv_header and
-- struct pv_header_extension).
use Rattle.std.specs.Prelude.{◌≡◌, ℕ, ◌+◌, ◌-◌, ◌*◌, List, ◌++◌, length, slice_range, replicate}
use Rattle.byteorder.specs.Endian.{little_bytes}
use Rattle.sector_base.specs.Fields.{field}
use Rattle.lvm_id.specs.LvmId.{IsId}
use Rattle.pv_header.specs.declared.extent_list.Extent.{Extent}
use Rattle.pv_header.specs.declared.header.PvHeader.{PvHeader}
use Rattle.pv_header.specs.Extents.{IsListAt, list_bytes}

-- where the part after a list begins: after the pair that ends it
abbrev pub after_list : ℕ → List Extent → ℕ
after_list at list = at + 16 * (length list + 1)

-- where the metadata areas begin
abbrev pub areas_place : PvHeader → ℕ
areas_place header = after_list 72 header.data_areas

-- where the extension begins
abbrev pub extension_place : PvHeader → ℕ
extension_place header = after_list (areas_place header) header.areas

-- the sector has a header with these fields, and with these bootloader areas
pub record IsPvHeader (sector : List ℕ) (header : PvHeader) (bootloader : List Extent) : Type 0 where
  -- pv_uuid
  pub id_valid : IsId header.id
  pub id_at : slice_range sector 32 64 ≡ header.id
  -- device_size_xl
  pub device_at : field 8 sector 64 ≡ header.device_bytes
  -- disk_areas_xl: the data areas, and then the metadata areas
  pub data_at : IsListAt sector 72 header.data_areas
  pub areas_at : IsListAt sector (areas_place header) header.areas
  -- version and flags
  pub version_at : field 4 sector (extension_place header) ≡ header.version
  pub flags_at : field 4 sector (extension_place header + 4) ≡ header.flags
  -- bootloader_areas_xl
  pub bootloader_at : IsListAt sector (extension_place header + 8) bootloader

-- the fields as they are written, with version 2 and no bootloader area; 16 zeros end a list
unfoldable pub fields_bytes : PvHeader → List ℕ
fields_bytes header =
    header.id
    ++ little_bytes 8 header.device_bytes
    ++ list_bytes header.data_areas ++ replicate 16 0
    ++ list_bytes header.areas ++ replicate 16 0
    ++ little_bytes 4 2 ++ little_bytes 4 header.flags
    ++ replicate 16 0

-- bytes 32 to 512 as they are written: the fields, and zeros to the sector's end
abbrev pub header_bytes : PvHeader → List ℕ
header_bytes header = fields_bytes header ++ replicate (480 - length (fields_bytes header)) 0
