-- What can stand on a disk, whatever its sectors are.
use Rattle.std.specs.Prelude.{◌≡◌, ◌≤◌, ◌<◌, ℕ, ◌+◌, ◌*◌, List, [], map, All}
use Rattle.mda_header.specs.declared.entry.HeaderEntry.{HeaderEntry}
use Rattle.mda_header.specs.declared.entry.HeaderEntry.TheVariants.{Ignored, Nothing, Text, Refused}
use Rattle.mda_header.specs.Header.{IsInside}
use Rattle.mda_ring.specs.declared.area.Area.{Area}
use Rattle.mda_ring.specs.Areas.{IsArea}
use Rattle.pv_header.specs.declared.extent_list.Extent.{Extent}
use Rattle.pv_header.specs.PvRefusal.{Reads}
use Rattle.disk_contents.specs.declared.contents.AreaFound.{AreaFound}
use Rattle.disk_contents.specs.declared.contents.PvFound.{PvFound}
use Rattle.disk_contents.specs.declared.contents.PvFound.TheVariants.{NoLabel, NoHeader, Whole}

-- the metadata areas of what was found, with what stands in their header sectors
abbrev pub areas_in : PvFound → List AreaFound
areas_in (NoLabel refusal) = []
areas_in (NoHeader label refusal) = []
areas_in (Whole label header areas) = areas

-- the area on this disk
abbrev pub area_on : ℕ → Extent → Area
area_on pv area = record { pv = pv; start = area.offset; size = area.size }

-- the committed text, if there is one, lies in the area
abbrev pub LiesInside : ℕ → HeaderEntry → Type 0
LiesInside size Ignored = Unit {0}
LiesInside size Nothing = Unit {0}
LiesInside size (Text locn) = IsInside size locn
LiesInside size (Refused refusal) = Unit {0}

-- the committed text of an area that was found does
abbrev pub HasTextInside : AreaFound → Type 0
HasTextInside found = LiesInside found.area.size found.entry

-- the area can be used on a disk of so many sectors, and its committed text lies in it
pub record IsUsable (pv disk : ℕ) (found : AreaFound) : Type 0 where
  pub area : IsArea (area_on pv found.area)
  pub within : found.area.offset + found.area.size ≤ disk * 512
  pub text : HasTextInside found

-- what can stand on a disk of so many sectors: a label among its first four, a header that is read there of some sector, and
-- its areas in order
abbrev pub CanStand : ℕ → ℕ → PvFound → Type 0
CanStand pv disk (NoLabel refusal) = Unit {0}
CanStand pv disk (NoHeader label refusal) = label < 4
CanStand pv disk (Whole label header areas) =
    (label < 4) × ((sector : List ℕ) × Reads sector (disk * 512) header) × (map (λ (found : AreaFound). found.area) areas ≡ header.areas)
    × All (IsUsable pv disk) areas
