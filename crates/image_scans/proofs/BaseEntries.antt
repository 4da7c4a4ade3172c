-- A base shows the entries that were found there.
use Rattle.std.proofs.Common.{◌≡◌, ℕ, ◌+◌, ◌/◌, List, [], ◌∷◌, Option, Some, None, inl, inr, ap, subst, arith}
use Rattle.std.specs.Prelude.{All, filter_map}
use Rattle.std.specs.FinSet as set
use Rattle.std.specs.Ordering.{nat_cmp}
use Rattle.std.proofs.lemmas.List.Elements.{All-append, All-nil}
use Rattle.std.proofs.lemmas.Option.{same_Some}
use Rattle.disk_model.specs.Steps.{Image}
use Rattle.mda_header.specs.Header.{IsEntry}
use Rattle.mda_header.specs.declared.entry.HeaderEntry.{HeaderEntry}
use Rattle.mda_header.specs.declared.entry.HeaderEntry.TheVariants.{Ignored, Nothing, Text, Refused}
use Rattle.mda_header.specs.declared.header.Locn.{Locn}
use Rattle.mda_ring.specs.declared.area.Area.{Area}
use Rattle.scan_rules.specs.Decision.{Reading}
use Rattle.disk_contents.specs.declared.contents.AreaFound.{AreaFound}
use Rattle.disk_contents.specs.declared.contents.PvFound.{PvFound}
use Rattle.disk_contents.specs.declared.contents.PvFound.TheVariants.{NoLabel, NoHeader, Whole}
use Rattle.disk_contents.specs.Contents.{IsAreaFound}
use Rattle.disk_contents.specs.Standing.{area_on}
use Rattle.vg_found.specs.declared.disk.Disk.{Disk}
use Rattle.vg_found.specs.Disks.{areas_on, held_area, held_areas, held_by}
use Rattle.list_laws.proofs.KeptLists.{all_kept}
use Rattle.vg_scan.specs.Readings.{AreDiskReadings, IsContents}
use Rattle.vg_commit.specs.Showing.{Names, sectors_of}
use Rattle.change_batches.specs.Laws.{ShowsEntries}

abbrev ShowsEntry : Image → Area × Option Locn → Type 0
ShowsEntry image area = Names area.0 area.1 (sectors_of area.0 image 0)

shows_by : (image : Image) (area : Area) (entry : HeaderEntry) (held : Area × Option Locn)
    → IsEntry (sectors_of area image 0) area.start area.size entry → held_by area entry ≡ Some held → ShowsEntry image held
shows_by image area Ignored held is kept = absurd cc
shows_by image area Nothing held is kept = subst (ShowsEntry image) (same_Some (area, None) held kept) (inl is)
shows_by image area (Text locn) held is kept = subst (ShowsEntry image) (same_Some (area, Some locn) held kept) is
shows_by image area (Refused refusal) held is kept = subst (ShowsEntry image) (same_Some (area, None) held kept) (inr (refusal, is))

shows_one : (image : Image) (pv : ℕ) (found : AreaFound) (held : Area × Option Locn) → IsAreaFound (image pv) found
    → held_area pv found ≡ Some held → ShowsEntry image held
shows_one image pv found held is kept =
    let first : image pv (found.area.offset / 512) ≡ sectors_of (area_on pv found.area) image 0 = ap (image pv) (omega arith) in
    shows_by image (area_on pv found.area) found.entry held
    (subst (λ (s : List ℕ). IsEntry s found.area.offset found.area.size found.entry) first is.1) kept

shows_on : (image : Image) (pv sectors : ℕ) (contents : Option PvFound) → IsContents (image pv) sectors contents
    → All (ShowsEntry image) (filter_map (held_area pv) (areas_on contents))
shows_on image pv sectors None is = All-nil (ShowsEntry image)
shows_on image pv sectors (Some (NoLabel refusal)) is = All-nil (ShowsEntry image)
shows_on image pv sectors (Some (NoHeader label refusal)) is = All-nil (ShowsEntry image)
shows_on image pv sectors (Some (Whole label header areas)) is =
    all_kept (ShowsEntry image) (IsAreaFound (image pv)) (held_area pv) (λ found held here kept. shows_one image pv found held here kept)
    areas is.2.each

pub entries_shown : (image : Image) (unread : set.FinSet nat_cmp) (first : ℕ) (disks : List Disk) (readings : List Reading)
    → AreDiskReadings image unread first disks readings → ShowsEntries (held_areas first disks) image
entries_shown image unread first [] [] are = All-nil (ShowsEntry image)
entries_shown image unread first [] (reading ∷ readings) are = absurd are
entries_shown image unread first (disk ∷ disks) [] are = absurd are
entries_shown image unread first (disk ∷ disks) (reading ∷ readings) are =
    All-append (ShowsEntry image) (filter_map (held_area first) (areas_on disk.contents)) (held_areas (first + 1) disks)
    (shows_on image first disk.sectors disk.contents are.1.contents)
    (entries_shown image unread (first + 1) disks readings are.2)
