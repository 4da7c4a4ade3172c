-- A scan of an image that differs from the base only behind labels and beside metadata areas finds the same.
use Rattle.std.proofs.Common.{◌≡◌, ◌≤◌, ◌<◌, ◌⊎◌, ℕ, zero, suc, ◌+◌, ◌*◌, ◌/◌, List, [], ◌∷◌, map, Option, Some, None, inl, inr, ⊎_elim}
use Rattle.std.proofs.Common.{refl, sym, ap, subst, ◌∙◌, arith}
use Rattle.std.specs.Prelude.{slice_get}
use Rattle.std.specs.FinSet as set
use Rattle.std.specs.List.{AllByRecursion as Each}
use Rattle.std.specs.Ordering.{nat_cmp}
use Rattle.std.proofs.lemmas.List.Elements.{All-from_recursion, recursion_from_All}
use Rattle.std.proofs.lemmas.Option.{same_Some}
use Rattle.disk_model.specs.Steps.{Image}
use Rattle.pv_label.specs.Label.{IsFirstLabel, IsLabelRefusal}
use Rattle.pv_label.specs.LabelSectors.{first_four}
use Rattle.pv_header.specs.declared.extent_list.Extent.{Extent}
use Rattle.pv_header.specs.declared.header.PvHeader.{PvHeader}
use Rattle.pv_header.specs.PvRefusal.{Reads, Refuses}
use Rattle.mda_header.specs.declared.entry.HeaderEntry.{HeaderEntry}
use Rattle.mda_header.specs.declared.entry.HeaderEntry.TheVariants.{Ignored, Nothing, Text, Refused as RefusedFor}
use Rattle.mda_header.specs.declared.header.Locn.{Locn}
use Rattle.mda_header.specs.Header.{IsEntry, IsInside}
use Rattle.mda_ring.specs.declared.area.Area.{Area}
use Rattle.scan_rules.specs.Decision.{Area as AreaOf, AreaReading, Found as PvOf, Reading}
use Rattle.disk_contents.specs.declared.contents.AreaFound.{AreaFound}
use Rattle.disk_contents.specs.declared.contents.PvFound.{PvFound}
use Rattle.disk_contents.specs.declared.contents.PvFound.TheVariants.{NoLabel, NoHeader, Whole}
use Rattle.disk_contents.specs.Contents.{IsAreaFound, IsMdaFound}
use Rattle.disk_contents.specs.Standing.{IsUsable, LiesInside, area_on}
use Rattle.vg_found.specs.declared.disk.Disk.{Disk}
use Rattle.vg_found.specs.declared.found.Found.{Found}
use Rattle.vg_found.specs.Disks.{areas_on, header_on}
use Rattle.vg_found.specs.Shape.{ContentsCanStand, HasShape, IsDisk}
use Rattle.vg_scan.specs.Readings.{AreAreaReadings, AreDiskReadings, IsAreaReading, IsContents, IsDiskReading, IsGiven, IsPvReading}
use Rattle.vg_scan.specs.Scans.{IsScanOf}
use Rattle.vg_scan.specs.Texts.{IsStored, stored_bytes}
use Rattle.vg_commit.specs.SectorReading.{ShowsBy, old_reading}
use Rattle.change_batches.specs.Laws.{text_in}
use Rattle.change_batches.proofs.BaseShows.{shows_alike, sized}
use Rattle.image_scans.proofs.Labels.{four_same}
use Rattle.image_scans.proofs.Placed.{IsPlaceOn}

-- the sector is before the area or behind it
abbrev IsBesideArea : ℕ → Extent → Type 0
IsBesideArea sector area = (sector < area.offset / 512) ⊎ (area.offset / 512 + area.size / 512 ≤ sector)

module _ (base image : Image) (pv : ℕ) where
  -- each sector of the area is as in the base
  abbrev SameIn : AreaFound → Type 0
  SameIn found =
      (sector : ℕ) → found.area.offset / 512 ≤ sector → sector < found.area.offset / 512 + found.area.size / 512
      → image pv sector ≡ base pv sector

  -- ---- an area

  module _ (sectors : ℕ) (found : AreaFound) (usable : IsUsable pv sectors found) (same : SameIn found)
      (stood : IsAreaFound (base pv) found) where
    abbrev own : Area
    own = area_on pv found.area

    first_same : base pv (found.area.offset / 512) ≡ image pv (found.area.offset / 512)
    first_same =
        sym (same (found.area.offset / 512) (omega arith) (let ring : 1536 ≤ found.area.size = usable.area.has_ring in omega (arith, ring)))

    text_same : (locn : Locn) → found.entry ≡ Text locn → stored_bytes (image pv) own locn ≡ stored_bytes (base pv) own locn
    text_same locn named =
        let inside : IsInside found.area.size locn = subst (LiesInside found.area.size) named usable.text in
        let names : IsEntry (base pv (found.area.offset / 512)) found.area.offset found.area.size (Text locn) =
        subst (IsEntry (base pv (found.area.offset / 512)) found.area.offset found.area.size) named stood.1 in
        let shows : ShowsBy (old_reading (text_in base)) image (own, Some locn) =
        shows_alike (old_reading (text_in base)) (own, Some locn) base image usable.area (sized base own (Some locn) inside)
        (λ k within. same (found.area.offset / 512 + k) (omega arith) (omega (arith, within)))
        (record {
          header = subst (λ (n : ℕ). IsEntry (base pv n) found.area.offset found.area.size (Text locn)) (omega arith) names;
          ring = refl;
        })
        in
        shows.ring

    given_same : (reading : Option AreaReading) (entry : HeaderEntry) → found.entry ≡ entry → IsGiven (base pv) own entry reading
        → IsGiven (image pv) own entry reading
    given_same reading Ignored named given = given
    given_same reading Nothing named given = given
    given_same reading (Text locn) named given =
        (given.0, given.1, subst (λ (bytes : List ℕ). IsStored locn bytes given.0) (sym (text_same locn named)) given.2)
    given_same reading (RefusedFor refusal) named given = given

    area_found : IsAreaFound (image pv) found
    area_found = (
      subst (λ (s : List ℕ). IsMdaFound s found.area found.header) first_same stood.0,
      subst (λ (s : List ℕ). IsEntry s found.area.offset found.area.size found.entry) first_same stood.1,
    )

    area_read : (area : AreaOf) → IsAreaReading pv (base pv) found area → IsAreaReading pv (image pv) found area
    area_read area reads =
        record { start_is = reads.start_is; sectors_is = reads.sectors_is; given = given_same area.reading found.entry refl reads.given }

  areas_found : (sectors : ℕ) (founds : List AreaFound) → Each (IsUsable pv sectors) founds → Each SameIn founds
      → Each (IsAreaFound (base pv)) founds → Each (IsAreaFound (image pv)) founds
  areas_found sectors [] usable same stood = tt
  areas_found sectors (found ∷ founds) usable same stood =
      (area_found sectors found usable.0 same.0 stood.0, areas_found sectors founds usable.1 same.1 stood.1)

  areas_read : (sectors : ℕ) (founds : List AreaFound) (areas : List AreaOf) → Each (IsUsable pv sectors) founds → Each SameIn founds
      → Each (IsAreaFound (base pv)) founds → AreAreaReadings pv (base pv) founds areas
      → AreAreaReadings pv (image pv) founds areas
  areas_read sectors [] [] usable same stood reads = tt
  areas_read sectors [] (area ∷ areas) usable same stood reads = absurd reads
  areas_read sectors (found ∷ founds) [] usable same stood reads = absurd reads
  areas_read sectors (found ∷ founds) (area ∷ areas) usable same stood reads =
      (area_read sectors found usable.0 same.0 stood.0 area reads.0, areas_read sectors founds areas usable.1 same.1 stood.1 reads.1)

  -- ---- a disk

  module _ (sectors : ℕ) (low : (sector : ℕ) → sector < 8 → image pv sector ≡ base pv sector) where
    four : first_four (base pv) ≡ first_four (image pv)
    four = sym (four_same (base pv) (image pv) (λ k less. low k (omega (arith, less))))

    at_label : (label : ℕ) → IsFirstLabel (first_four (base pv)) label → base pv label ≡ image pv label
    at_label label first = sym (low label (let less : label < 4 = first.among in omega (arith, less)))

    whole_same : (label : ℕ) (header : PvHeader) (founds : List AreaFound) (o : Option PvOf)
        → ContentsCanStand pv sectors (Some (Whole label header founds)) → Each SameIn founds
        → IsContents (base pv) sectors (Some (Whole label header founds)) → IsPvReading pv (base pv) (Some (Whole label header founds)) o
        → IsContents (image pv) sectors (Some (Whole label header founds)) × IsPvReading pv (image pv) (Some (Whole label header founds)) o
    whole_same label header founds None stands same found reads = absurd reads
    whole_same label header founds (Some own) stands same found reads =
        let usable : Each (IsUsable pv sectors) founds = recursion_from_All (IsUsable pv sectors) founds stands.3 in
        let stood : Each (IsAreaFound (base pv)) founds = recursion_from_All (IsAreaFound (base pv)) founds found.2.each in (
          (
            subst (λ (l : List (List ℕ)). IsFirstLabel l label) four found.0,
            subst (λ (s : List ℕ). Reads s (sectors * 512) header) (at_label label found.0) found.1,
            record {
              in_order = found.2.in_order;
              each = All-from_recursion (IsAreaFound (image pv)) founds
                  (areas_found sectors founds usable same stood);
            },
          ),
          (reads.0, areas_read sectors founds own.areas usable same stood reads.1),
        )

    contents_same : (contents : Option PvFound) (o : Option PvOf) → ContentsCanStand pv sectors contents → Each SameIn (areas_on contents)
        → IsContents (base pv) sectors contents → IsPvReading pv (base pv) contents o
        → IsContents (image pv) sectors contents × IsPvReading pv (image pv) contents o
    contents_same None o stands same found reads = (tt, reads)
    contents_same (Some (NoLabel refusal)) o stands same found reads =
        (subst (λ (l : List (List ℕ)). IsLabelRefusal l refusal) four found, reads)
    contents_same (Some (NoHeader label refusal)) o stands same found reads = (
      (
        subst (λ (l : List (List ℕ)). IsFirstLabel l label) four found.0,
        subst (λ (s : List ℕ). Refuses s (sectors * 512) refusal) (at_label label found.0) found.1,
        found.2,
      ),
      reads,
    )
    contents_same (Some (Whole label header founds)) o stands same found reads = whole_same label header founds o stands same found reads

  disk_kept : (disk : Disk) (reading : Reading) → IsDisk pv disk → ((sector : ℕ) → sector < 8 → image pv sector ≡ base pv sector)
      → Each SameIn (areas_on disk.contents) → IsDiskReading pv (base pv) disk reading
      → IsDiskReading pv (image pv) disk reading
  disk_kept disk reading is low same reads =
      let both = contents_same disk.sectors low disk.contents reading.pv is.contents same reads.contents reads.pv_is in
      record { contents = both.0; sectors_is = reads.sectors_is; pv_is = both.1 }

-- ---- all disks

module _ (base image : Image) (unread : set.FinSet nat_cmp) (low : (pv sector : ℕ) → sector < 8 → image pv sector ≡ base pv sector) where
  -- what is known of the disk with this number
  abbrev IsKept : ℕ → Disk → Type 0
  IsKept pv disk = IsDisk pv disk × Each (SameIn base image pv) (areas_on disk.contents)

  disks_kept : (first : ℕ) (disks : List Disk) (readings : List Reading)
      → ((k : ℕ) (disk : Disk) → slice_get disks k ≡ Some disk → IsKept (first + k) disk) → AreDiskReadings base unread first disks readings
      → AreDiskReadings image unread first disks readings
  disks_kept first [] [] kept are = tt
  disks_kept first [] (reading ∷ readings) kept are = absurd are
  disks_kept first (disk ∷ disks) [] kept are = absurd are
  disks_kept first (disk ∷ disks) (reading ∷ readings) kept are =
      let own : IsKept first disk = subst (λ (n : ℕ). IsKept n disk) (omega arith) (kept zero disk refl) in (
        are.0,
        disk_kept base image first disk reading own.0 (low first) own.1 are.1,
        disks_kept (first + 1) disks readings (λ k d there. subst (λ (n : ℕ). IsKept n d) (omega arith) (kept (suc k) d there)) are.2,
      )

-- ---- where only such sectors differ

-- the areas that stand behind a header are those that it lists
areas_listed : (P : Extent → Type 0) (pv sectors : ℕ) (contents : Option PvFound) (header : PvHeader) → ContentsCanStand pv sectors contents
    → header_on contents ≡ Some header → Each P header.areas
    → Each P (map (λ (f : AreaFound). f.area) (areas_on contents))
areas_listed P pv sectors None header stands is all = absurd cc
areas_listed P pv sectors (Some (NoLabel refusal)) header stands is all = absurd cc
areas_listed P pv sectors (Some (NoHeader label refusal)) header stands is all = absurd cc
areas_listed P pv sectors (Some (Whole label own founds)) header stands is all =
    subst (Each P) (sym stands.2) (subst (λ (h : PvHeader). Each P h.areas) (sym (same_Some own header is)) all)

module _ (base image : Image) (disks : List Disk) (are : (pv : ℕ) (disk : Disk) → slice_get disks pv ≡ Some disk → IsDisk pv disk)
    (same : (pv sector : ℕ) → (image pv sector ≡ base pv sector) ⊎ IsPlaceOn disks pv sector) where
  low_same : (pv sector : ℕ) → sector < 8 → image pv sector ≡ base pv sector
  low_same pv sector less =
      ⊎_elim (λ e. e) (λ on. absurd (let behind : 8 ≤ sector = on.beside.behind in omega (arith, less, behind))) (same pv sector)

  module _ (pv : ℕ) (disk : Disk) (there : slice_get disks pv ≡ Some disk) where
    same_or_beside : (sector : ℕ) → (image pv sector ≡ base pv sector)
        ⊎ Each (IsBesideArea sector) (map (λ (f : AreaFound). f.area) (areas_on disk.contents))
    same_or_beside sector =
        ⊎_elim
        (λ e. inl e)
        (λ on.
        let own : on.disk ≡ disk = same_Some on.disk disk (sym on.there ∙ there) in
        inr (areas_listed (IsBesideArea sector) pv disk.sectors disk.contents on.header (are pv disk there).contents
        (ap (λ (d : Disk). header_on d.contents) (sym own) ∙ on.is) on.beside.beside))
        (same pv sector)

    each_same : (founds : List AreaFound) → ((sector : ℕ)
        → (image pv sector ≡ base pv sector) ⊎ Each (IsBesideArea sector) (map (λ (f : AreaFound). f.area) founds))
        → Each (SameIn base image pv) founds
    each_same [] or = tt
    each_same (found ∷ founds) or = (
      λ sector from to.
          ⊎_elim
          (λ e. e)
          (λ all.
          ⊎_elim
          (λ (before : sector < found.area.offset / 512). absurd (omega (arith, before, from)))
          (λ (behind : found.area.offset / 512 + found.area.size / 512 ≤ sector). absurd (omega (arith, behind, to)))
          all.0)
          (or sector),
      each_same founds (λ sector. ⊎_elim (λ e. inl e) (λ all. inr all.1) (or sector)),
    )

    disk_is_kept : IsDisk pv disk × Each (SameIn base image pv) (areas_on disk.contents)
    disk_is_kept = (are pv disk there, each_same (areas_on disk.contents) same_or_beside)

  pub readings_kept : (unread : set.FinSet nat_cmp) (readings : List Reading) → AreDiskReadings base unread 0 disks readings
      → AreDiskReadings image unread 0 disks readings
  readings_kept unread readings reads =
      disks_kept base image unread low_same 0 disks readings
      (λ k disk there. subst (λ (n : ℕ). IsKept base image unread low_same n disk) (omega arith) (disk_is_kept k disk there)) reads

pub scan_kept : (base image : Image) (sizes : List ℕ) (found : Found) → HasShape found
    → ((pv sector : ℕ) → (image pv sector ≡ base pv sector) ⊎ IsPlaceOn found.disks pv sector) → IsScanOf base sizes found
    → IsScanOf image sizes found
scan_kept base image sizes found shape same scan = record {
  readings = scan.readings;
  are =
      record {
        sizes_is = scan.are.sizes_is;
        each = readings_kept base image found.disks (λ pv disk there. (shape.disks pv disk there).0)
            same found.unread scan.readings scan.are.each;
      };
  answer = scan.answer;
  areas = scan.areas;
  disk_of = scan.disk_of;
  old = scan.old;
}
