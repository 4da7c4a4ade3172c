-- What stands in lvm2's sectors of a disk: the label, the physical volume header and the metadata area headers of lvm2's
-- on-disk format.
use Rattle.std.specs.Prelude.{◌≡◌, ◌≢◌, ℕ, ◌*◌, ◌/◌, Result, MatchResult, List, map, All}
use Rattle.mda_header.specs.declared.header.MdaHeader.{MdaHeader}
use Rattle.mda_header.specs.declared.refusal.MdaRefusal.{MdaRefusal}
use Rattle.mda_header.specs.Header.{IsEntry, IsHeader, IsRefused}
use Rattle.pv_header.specs.declared.extent_list.Extent.{Extent}
use Rattle.pv_header.specs.declared.refusal.PvRefusal.TheVariants.{NoMemory}
use Rattle.pv_header.specs.PvRefusal.{Reads, Refuses}
use Rattle.pv_label.specs.Label.{IsFirstLabel, IsLabelRefusal}
use Rattle.pv_label.specs.LabelSectors.{first_four}
use Rattle.disk_contents.specs.declared.contents.AreaFound.{AreaFound}
use Rattle.disk_contents.specs.declared.contents.PvFound.{PvFound}
use Rattle.disk_contents.specs.declared.contents.PvFound.TheVariants.{NoLabel, NoHeader, Whole}

-- what stands in the sector where the area begins: the header of an area that begins and ends there, or why it is none
abbrev pub IsMdaFound : List ℕ → Extent → Result MdaHeader MdaRefusal → Type 0
IsMdaFound sector area found =
    MatchResult found (λ header. IsHeader sector header × (header.start ≡ area.offset) × (header.size ≡ area.size))
    (IsRefused sector area.offset area.size)

-- a metadata area, what stands in its first sector, and what that says of the committed text
abbrev pub IsAreaFound : (ℕ → List ℕ) → AreaFound → Type 0
IsAreaFound sector_at found =
    IsMdaFound (sector_at (found.area.offset / 512)) found.area found.header
    × IsEntry (sector_at (found.area.offset / 512)) found.area.offset found.area.size found.entry

-- these are the areas, with what stands in the first sector of each
pub record AreAreasFound (sector_at : ℕ → List ℕ) (areas : List Extent) (all : List AreaFound) : Type 0 where
  pub in_order : map (λ (found : AreaFound). found.area) all ≡ areas
  pub each : All (IsAreaFound sector_at) all

-- what stands on a disk of so many sectors, with these contents: the refusal of its label, its label and the refusal of its
-- header, or its label, its header and its metadata areas
abbrev pub IsFound : (ℕ → List ℕ) → ℕ → PvFound → Type 0
IsFound sector_at disk (NoLabel refusal) = IsLabelRefusal (first_four sector_at) refusal
IsFound sector_at disk (NoHeader label refusal) =
    IsFirstLabel (first_four sector_at) label × Refuses (sector_at label) (disk * 512) refusal × (refusal ≢ NoMemory)
IsFound sector_at disk (Whole label header areas) =
    IsFirstLabel (first_four sector_at) label × Reads (sector_at label) (disk * 512) header × AreAreasFound sector_at header.areas areas
