-- What an area shows, as what it asks of the value of each single sector.
use Rattle.std.specs.Prelude.{◌≡◌, ◌<◌, ◌⊎◌, ℕ, ◌-◌, ◌/◌, ◌%◌, IsTrue, List, slice_index, length, All, Option, None, Some, IfSome}
use Rattle.sector_base.specs.Spans.{covers}
use Rattle.disk_model.specs.Steps.{Image}
use Rattle.mda_header.specs.declared.header.Locn.{Locn}
use Rattle.mda_header.specs.Header.{IsInside}
use Rattle.mda_ring.specs.declared.area.Area.{Area}
use Rattle.mda_ring.specs.Ring.{byte_place}
use Rattle.vg_commit.specs.Written.{area_span, new_entry, stored}
use Rattle.vg_commit.specs.Showing.{Names, Shows}

-- the value has each byte of the text that stands in this sector of an area of this size
abbrev pub HasPart : ℕ → Option Locn → List ℕ → ℕ → List ℕ → Type 0
HasPart size None bytes sector value = Unit {0}
HasPart size (Some locn) bytes sector value =
    (j : ℕ) → j < locn.size → byte_place size locn.offset j / 512 ≡ sector
    → slice_index value (byte_place size locn.offset j % 512) ≡ slice_index bytes j

-- what is asked of the value of this sector of the area
pub record Reads (area : Area) (entry : Option Locn) (bytes : List ℕ) (sector : ℕ) (value : List ℕ) : Type 0 where
  pub header : sector ≡ 0 → Names area entry value
  pub ring : HasPart area.size entry bytes sector value

-- a reading gives each area an entry, and the bytes that stand there
abbrev pub Reading : Type 0
Reading = Area × Option Locn → Option Locn × List ℕ

-- the reading before a commit: the entry that the area has, and the bytes that stand there
abbrev pub old_reading : (Area × Option Locn → List ℕ) → Reading
old_reading bytes area = (area.1, bytes area)

-- the reading after it: the new entry, and the text as it is stored
abbrev pub new_reading : List ℕ → Reading
new_reading text area = (Some (new_entry text area), stored text)

-- the value of this sector of a disk is as the reading asks, if it is one of this area
abbrev pub ReadsAt : Reading → ℕ → ℕ → List ℕ → Area × Option Locn → Type 0
ReadsAt reading pv sector value area =
    IsTrue (covers (area_span area.0) pv sector) → Reads area.0 (reading area).0 (reading area).1 (sector - area.0.start / 512) value

-- and of each area
abbrev pub AllRead : Reading → List (Area × Option Locn) → ℕ → ℕ → List ℕ → Type 0
AllRead reading areas pv sector value = All (ReadsAt reading pv sector value) areas

-- the area shows what the reading says
abbrev pub ShowsBy : Reading → Image → Area × Option Locn → Type 0
ShowsBy reading image area = Shows area.0 (reading area).0 (reading area).1 image

-- each area shows what the reading says
abbrev pub AllShow : Reading → List (Area × Option Locn) → Image → Type 0
AllShow reading areas image = All (ShowsBy reading image) areas

-- each area shows, whole, what one of the readings says
abbrev pub EachShows : (old new : Reading) → List (Area × Option Locn) → Image → Type 0
EachShows old new areas image = All (λ (area : Area × Option Locn). ShowsBy old image area ⊎ ShowsBy new image area) areas

-- where a reading has an entry, it lies in the area, and the bytes are as many as it says
abbrev pub IsSized : Area → Option Locn → List ℕ → Type 0
IsSized area entry bytes = IfSome entry (λ (locn : Locn). IsInside area.size locn × (length bytes ≡ locn.size))

-- each entry is sized
abbrev pub AreSized : Reading → List (Area × Option Locn) → Type 0
AreSized reading areas = All (λ (a : Area × Option Locn). IsSized a.0 (reading a).0 (reading a).1) areas
