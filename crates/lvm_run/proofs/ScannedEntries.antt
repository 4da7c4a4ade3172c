-- What a scan gives of each metadata area is what its header says in the image.
use Rattle.std.proofs.Common.{◌≡◌, ℕ, ◌+◌, ◌/◌, List, [], ◌∷◌, Option, Some, None, inl, inr, sym, subst, arith}
use Rattle.std.specs.Prelude.{All, filter_map}
use Rattle.std.specs.FinSet as set
use Rattle.std.specs.Ordering.{nat_cmp}
use Rattle.std.proofs.lemmas.List.Elements.{All-append, All-nil}
use Rattle.std.proofs.lemmas.Option.{same_Some}
use Rattle.disk_model.specs.Steps.{Image}
use Rattle.mda_header.specs.Header.{IsEntry}
use Rattle.mda_header.specs.declared.entry.HeaderEntry.{HeaderEntry}
use Rattle.mda_header.specs.declared.entry.HeaderEntry.TheVariants.{Ignored, Nothing, Text, Refused}
use Rattle.mda_header.specs.declared.header.Locn.{Locn}
use Rattle.mda_ring.specs.declared.area.Area.{Area}
use Rattle.disk_contents.specs.Contents.{IsAreaFound}
use Rattle.disk_contents.specs.Standing.{area_on}
use Rattle.disk_contents.specs.declared.contents.AreaFound.{AreaFound}
use Rattle.disk_contents.specs.declared.contents.PvFound.{PvFound}
use Rattle.disk_contents.specs.declared.contents.PvFound.TheVariants.{NoLabel, NoHeader, Whole}
use Rattle.scan_rules.specs.Decision.{Reading}
use Rattle.vg_commit.specs.Showing.{Names, sectors_of}
use Rattle.list_laws.proofs.KeptLists.{all_kept}
use Rattle.vg_found.specs.Disks.{areas_on, held_area, held_areas, held_by}
use Rattle.vg_found.specs.declared.disk.Disk.{Disk}
use Rattle.vg_found.specs.declared.found.Found.{Found}
use Rattle.vg_scan.specs.Readings.{AreDiskReadings, IsContents}
use Rattle.vg_scan.specs.Scans.{IsScanOf}

-- the area's header names the entry
abbrev IsNamed : Image → Area × Option Locn → Type 0
IsNamed image area = Names area.0 area.1 (sectors_of area.0 image 0)

header_sector : (image : Image) (area : Area) (entry : HeaderEntry) → IsEntry (image area.pv (area.start / 512)) area.start area.size entry
    → IsEntry (sectors_of area image 0) area.start area.size entry
header_sector image area entry is =
    let at : area.start / 512 ≡ area.start / 512 + 0 = omega arith in
    subst (λ (n : ℕ). IsEntry (image area.pv n) area.start area.size entry) at is

named_by : (image : Image) (area : Area) (entry : HeaderEntry) (held : Area × Option Locn)
    → IsEntry (image area.pv (area.start / 512)) area.start area.size entry → held_by area entry ≡ Some held → IsNamed image held
named_by image area Ignored held is kept = absurd (cc)
named_by image area Nothing held is kept =
    subst (IsNamed image) (same_Some (area, None) held kept) (inl (header_sector image area Nothing is))
named_by image area (Text locn) held is kept =
    subst (IsNamed image) (same_Some (area, Some locn) held kept) (header_sector image area (Text locn) is)
named_by image area (Refused refusal) held is kept =
    subst (IsNamed image) (same_Some (area, None) held kept) (inr (refusal, header_sector image area (Refused refusal) is))

found_named : (image : Image) (pv : ℕ) (found : AreaFound) (held : Area × Option Locn) → IsAreaFound (image pv) found
    → held_area pv found ≡ Some held → IsNamed image held
found_named image pv found held is kept = named_by image (area_on pv found.area) found.entry held is.1 kept

areas_found : (sector_at : ℕ → List ℕ) (sectors : ℕ) (contents : Option PvFound) → IsContents sector_at sectors contents
    → All (IsAreaFound sector_at) (areas_on contents)
areas_found sector_at sectors None is = All-nil (IsAreaFound sector_at)
areas_found sector_at sectors (Some (NoLabel refusal)) is = All-nil (IsAreaFound sector_at)
areas_found sector_at sectors (Some (NoHeader label refusal)) is = All-nil (IsAreaFound sector_at)
areas_found sector_at sectors (Some (Whole label header areas)) is = is.2.each

all_named : (image : Image) (unread : set.FinSet nat_cmp) (pv : ℕ) (disks : List Disk) (readings : List Reading)
    → AreDiskReadings image unread pv disks readings → All (IsNamed image) (held_areas pv disks)
all_named image unread pv [] readings are = All-nil (IsNamed image)
all_named image unread pv (disk ∷ disks) [] are = absurd are
all_named image unread pv (disk ∷ disks) (reading ∷ readings) are =
    All-append (IsNamed image) (filter_map (held_area pv) (areas_on disk.contents)) (held_areas (pv + 1) disks)
    (all_kept (IsNamed image) (IsAreaFound (image pv)) (held_area pv) (found_named image pv) (areas_on disk.contents)
    (areas_found (image pv) disk.sectors disk.contents are.1.contents))
    (all_named image unread (pv + 1) disks readings are.2)

-- in the image that was scanned the header of each area names what was found
pub scan_names : (image : Image) (sizes : List ℕ) (found : Found) → IsScanOf image sizes found → All (IsNamed image) found.areas
scan_names image sizes found is =
    subst (All (IsNamed image)) (sym is.areas) (all_named image found.unread 0 found.disks is.readings is.are.each)
