-- The disks once a repair is done: they stand and read as the repair hands them on.
use Rattle.std.proofs.Common.{◌≡◌, ◌↔◌, ℕ, suc, ◌+◌, true, false, List, [], ◌∷◌, get_or, map, Option, Some, None, refl, sym, ap}
use Rattle.std.proofs.Common.{subst, ◌∙◌, arith}
use Rattle.std.specs.Prelude.{option_map, slice_get}
use Rattle.std.specs.FinSet as set
use Rattle.std.specs.List.{AllByRecursion as Each, enumerate_from}
use Rattle.std.specs.Option.{option_and_then}
use Rattle.std.proofs.lemmas.List.Elements.{All-from_recursion, recursion_from_All}
use Rattle.std.proofs.lemmas.Option.{get_or_from_slice_get, slice_get_within}
use Rattle.disk_model.specs.Steps.{Image}
use Rattle.pv_header.specs.declared.header.PvHeader.{PvHeader}
use Rattle.meta_model.specs.declared.group.Group.{Group}
use Rattle.scan_rules.specs.Decision.{Area as AreaOf, AreaReading, Copy, Found as PvOf, Reading, lists}
use Rattle.disk_batch.specs.InTurn.{with_batches}
use Rattle.disk_contents.specs.declared.contents.AreaFound.{AreaFound}
use Rattle.disk_contents.specs.declared.contents.PvFound.{PvFound}
use Rattle.disk_contents.specs.declared.contents.PvFound.TheVariants.{NoLabel, NoHeader, Whole}
use Rattle.disk_contents.specs.Contents.{IsAreaFound, IsFound}
use Rattle.vg_found.specs.declared.disk.Disk.{Disk}
use Rattle.vg_found.specs.declared.found.Found.{Found}
use Rattle.vg_found.specs.Disks.{header_on}
use Rattle.vg_scan.specs.Readings.{AreAreaReadings, AreDiskReadings, AreReadings, IsAreaReading, IsContents, IsDiskReading, IsPvReading}
use Rattle.vg_scan.specs.Texts.{IsCopyOf}
use Rattle.group_plan.specs.Added.{pv_in}
use Rattle.vg_repair.specs.Batches.{repair_batches}
use Rattle.vg_repair.specs.Repaired.{repaired_area, repaired_areas, repaired_contents, repaired_disk, repaired_disks}
use Rattle.vg_repair.specs.Stale.{text_of}
use Rattle.vg_repair.proofs.Numbered.{mapped_same}
use Rattle.vg_repair.proofs.RepairedHeaders.{same_areas, same_id}
use Rattle.vg_repair.proofs.RepairedShape.{area_kept}
use Rattle.image_scans.proofs.CommitLine.{all_written}
use Rattle.repair_scans.specs.Laws.{CanRepair}
use Rattle.repair_scans.proofs.RepairOnTheWay.{without_header}
use Rattle.repair_scans.proofs.RepairedAreas.{area_repaired}
use Rattle.repair_scans.proofs.RepairedLabels.{label_repaired}
use Rattle.repair_scans.proofs.RepairedReadings.{area_after, pv_after, reading_after, readings_after}

module _ (base : Image) (sizes : List ℕ) (found : Found) (p : CanRepair base sizes found) (group : Group) (passed : List (List ℕ))
    (copy : IsCopyOf (text_of found) group passed)
    (unlisted : (pv : ℕ) (disk : Disk) (header : PvHeader) → slice_get found.disks pv ≡ Some disk → header_on disk.contents ≡ Some header
    → set.contains found.strays pv ≡ true → lists group header.id ≡ false) where
  abbrev last : Image
  last = with_batches (repair_batches found) base

  abbrev new : AreaReading
  new = Copy group (text_of found) passed

  abbrev contents_then : ℕ → PvFound → PvFound
  contents_then = repaired_contents found.stale found.strays found.old (text_of found)

  abbrev disk_then : ℕ × Disk → Disk
  disk_then = repaired_disk found.stale found.strays found.old (text_of found)

  abbrev read_then : ℕ × Reading → Reading
  read_then = reading_after found.stale found.strays new

  module _ (pv : ℕ) where
    abbrev area_then : ℕ × AreaFound → AreaFound
    area_then = repaired_area found.stale found.strays (text_of found) pv

    abbrev given_then : ℕ × AreaOf → AreaOf
    given_then = area_after found.stale found.strays new pv

    abbrev IsArea : ℕ → AreaFound → AreaOf → Type 0
    IsArea n area before =
        IsAreaFound (last pv) (area_then (n, area)) × IsAreaReading pv (last pv) (area_then (n, area)) (given_then (n, before))

    -- areas in their order, where the first has this number
    areas_then : (first : ℕ) (areas : List AreaFound) (before : List AreaOf) → Each (IsAreaFound (base pv)) areas
        → AreAreaReadings pv (base pv) areas before
        → ((n : ℕ) (area : AreaFound) (one : AreaOf) → slice_get areas n ≡ Some area → IsAreaFound (base pv) area
        → IsAreaReading pv (base pv) area one → IsArea (first + n) area one)
        → Each (IsAreaFound (last pv)) (map area_then (enumerate_from first areas))
        × AreAreaReadings pv (last pv) (map area_then (enumerate_from first areas)) (map given_then (enumerate_from first before))
    areas_then first [] [] stand reads each = (tt, tt)
    areas_then first [] (one ∷ before) stand reads each = absurd reads
    areas_then first (area ∷ areas) [] stand reads each = absurd reads
    areas_then first (area ∷ areas) (one ∷ before) stand reads each =
        let here : IsArea first area one = subst (λ (n : ℕ). IsArea n area one) (omega arith) (each 0 area one refl stand.0 reads.0) in
        let later =
        areas_then (first + 1) areas before stand.1 reads.1
        (λ n a o at stood read. subst (λ (m : ℕ). IsArea m a o) (omega arith) (each (suc n) a o at stood read)) in
        ((here.0, later.0), (here.1, later.1))

    module _ (disk : Disk) (there : slice_get found.disks pv ≡ Some disk) where
      -- ---- a disk with a header

      module _ (label : ℕ) (header : PvHeader) (areas : List AreaFound) (is : disk.contents ≡ Some (Whole label header areas))
          (stood : IsFound (base pv) disk.sectors (Whole label header areas)) (own : PvOf) (id_is : own.id ≡ header.id)
          (reads : AreAreaReadings pv (base pv) areas own.areas) where
        one_area : (n : ℕ) (area : AreaFound) (one : AreaOf) → slice_get areas n ≡ Some area → IsAreaFound (base pv) area
            → IsAreaReading pv (base pv) area one → IsArea n area one
        one_area n area one at stands read =
            let same : get_or areas n area ≡ area = get_or_from_slice_get areas n area area at in
            subst (λ (a : AreaFound). IsArea n a one) same
            (area_repaired base sizes found p group passed copy pv disk there label header areas is n area
            (slice_get_within areas n area at) one (subst (IsAreaFound (base pv)) (sym same) stands)
            (subst (λ (a : AreaFound). IsAreaReading pv (base pv) a one) (sym same) read))

        abbrev list : List AreaFound
        list = repaired_areas found.stale found.strays (text_of found) pv areas

        both : Each (IsAreaFound (last pv)) list × AreAreaReadings pv (last pv) list (map given_then (enumerate_from 0 own.areas))
        both =
            areas_then 0 areas own.areas (recursion_from_All (IsAreaFound (base pv)) areas stood.2.each) reads
            (λ n area one at stands read. subst (λ (m : ℕ). IsArea m area one) (omega arith) (one_area n area one at stands read))

        whole : IsFound (last pv) disk.sectors (contents_then pv (Whole label header areas))
            × IsPvReading pv (last pv) (Some (contents_then pv (Whole label header areas)))
            (Some (pv_after found.stale found.strays new pv own))
        whole =
            let labelled = label_repaired base sizes found p group unlisted pv disk there label header areas is stood in
            let order : map (λ (a : AreaFound). a.area) list ≡ map (λ (a : AreaFound). a.area) areas =
            mapped_same area_then (λ (a : AreaFound). a.area) (λ (a : AreaFound). a.area)
            (λ n area. area_kept found.stale found.strays (text_of found) pv n area) 0 areas
            in (
              (
                labelled.0,
                labelled.1,
                record {
                  in_order = order ∙ stood.2.in_order ∙ same_areas found.strays found.old pv header;
                  each = All-from_recursion (IsAreaFound (last pv)) list both.0;
                },
              ),
              (id_is ∙ same_id found.strays found.old pv header, both.1),
            )

      -- ---- any disk

      abbrev Stands : Option PvFound → Option PvOf → Type 0
      Stands contents read =
          IsContents (last pv) disk.sectors (option_map (contents_then pv) contents)
          × IsPvReading pv (last pv) (option_map (contents_then pv) contents)
          (option_map (pv_after found.stale found.strays new pv) read)

      without : (contents : Option PvFound) → disk.contents ≡ contents → option_and_then pv_in contents ≡ None → (reading : Reading)
          → IsContents (base pv) disk.sectors contents → IsContents (last pv) disk.sectors contents
      without = without_header base sizes found p group unlisted last (all_written (repair_batches found) base) pv disk there

      by_contents : (contents : Option PvFound) → disk.contents ≡ contents → (reading : Reading)
          → IsContents (base pv) disk.sectors contents → (read : Option PvOf) → IsPvReading pv (base pv) contents read
          → Stands contents read
      by_contents None is reading stood read none = (tt, ap (option_map (pv_after found.stale found.strays new pv)) none)
      by_contents (Some (NoLabel refusal)) is reading stood read none =
          (without (Some (NoLabel refusal)) is refl reading stood, ap (option_map (pv_after found.stale found.strays new pv)) none)
      by_contents (Some (NoHeader label refusal)) is reading stood read none =
          (without (Some (NoHeader label refusal)) is refl reading stood, ap (option_map (pv_after found.stale found.strays new pv)) none)
      by_contents (Some (Whole label header areas)) is reading stood None reads = absurd reads
      by_contents (Some (Whole label header areas)) is reading stood (Some own) reads =
          whole label header areas is stood own reads.0 reads.1

      disk_repaired : (reading : Reading) → IsDiskReading pv (base pv) disk reading
          → IsDiskReading pv (last pv) (disk_then (pv, disk)) (read_then (pv, reading))
      disk_repaired reading is =
          let stands : Stands disk.contents reading.pv = by_contents disk.contents refl reading is.contents reading.pv is.pv_is in
          record { contents = stands.0; sectors_is = is.sectors_is; pv_is = stands.1 }

  -- ---- all disks

  unread_then : (pv : ℕ) (contents : Option PvFound) → (contents ≡ None) ↔ (set.contains found.unread pv ≡ true)
      → (option_map (contents_then pv) contents ≡ None) ↔ (set.contains found.unread pv ≡ true)
  unread_then pv None is = is
  unread_then pv (Some contents) is =
      (λ none. absurd cc, λ unread. absurd (let e : ◌≡◌ {A = Option PvFound} (Some contents) None = is.1 unread in cc))

  disks_from : (first : ℕ) (disks : List Disk) (readings : List Reading) → AreDiskReadings base found.unread first disks readings
      → ((k : ℕ) (disk : Disk) → slice_get disks k ≡ Some disk → slice_get found.disks (first + k) ≡ Some disk)
      → AreDiskReadings last found.unread first (map disk_then (enumerate_from first disks)) (map read_then (enumerate_from first readings))
  disks_from first [] [] are there = tt
  disks_from first [] (reading ∷ readings) are there = absurd are
  disks_from first (disk ∷ disks) [] are there = absurd are
  disks_from first (disk ∷ disks) (reading ∷ readings) are there = (
    unread_then first disk.contents are.0,
    disk_repaired first disk (subst (λ (n : ℕ). slice_get found.disks n ≡ Some disk) (omega arith) (there 0 disk refl)) reading are.1,
    disks_from (first + 1) disks readings are.2
        (λ k d is. subst (λ (n : ℕ). slice_get found.disks n ≡ Some d) (omega arith) (there (suc k) d is)),
  )

  -- they read so
  pub disks_repaired : AreReadings last sizes found.unread (repaired_disks found.stale found.strays found.old (text_of found) found.disks)
      (readings_after found.stale found.strays new p.scan.readings)
  disks_repaired = record {
    sizes_is =
        mapped_same disk_then (λ (disk : Disk). disk.sectors) (λ (disk : Disk). disk.sectors) (λ k disk. refl) 0 found.disks
        ∙ p.scan.are.sizes_is;
    each =
        disks_from 0 found.disks p.scan.readings p.scan.are.each
        (λ k disk there. subst (λ (n : ℕ). slice_get found.disks n ≡ Some disk) (omega arith) there);
  }
