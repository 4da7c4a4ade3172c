-- The first eight sectors of a new volume on their disk: beside labels and metadata areas, and beside each primary place of the
-- group that was found. So writes within them keep all of these.
use Rattle.std.proofs.Common.{◌≡◌, ◌≢◌, ◌≤◌, ◌<◌, ℕ, zero, suc, ◌+◌, ◌*◌, ◌-◌, true, false, List, [], ◌∷◌, ◌++◌, length, map, Some, None}
use Rattle.std.proofs.Common.{inl, inr, ⊎_elim, refl, sym, ap, ◌∙◌, arith}
use Rattle.std.specs.Prelude.{option_map, slice_get, slice_index, All, AllPairs}
use Rattle.std.specs.List.{list_any}
use Rattle.std.proofs.lemmas.Bool.{false≢true, or_cases}
use Rattle.std.proofs.lemmas.List.Elements.{All-head, All-tail}
use Rattle.sector_base.specs.Spans.{covers}
use Rattle.std.proofs.lemmas.Option.{same_Some, slice_get-map}
use Rattle.sector_base.specs.declared.places.At.{At}
use Rattle.disk_batch.specs.InTurn.{Put}
use Rattle.disk_batch.specs.Writes.{IsWrittenBy}
use Rattle.disk_batch.proofs.FrontBatches.{KeepsSector, keeps_sector}
use Rattle.extent_alloc.specs.declared.part.Part.{Part}
use Rattle.extent_alloc.specs.declared.part.PartRun.{PartRun}
use Rattle.meta_model.specs.declared.group.Group.{Group}
use Rattle.meta_model.specs.declared.lv.Lv.{Lv}
use Rattle.meta_model.specs.declared.pv.Pv.{Pv}
use Rattle.meta_model.specs.declared.segment.SegKind.{SegKind}
use Rattle.pv_header.specs.declared.header.PvHeader.{PvHeader}
use Rattle.scan_rules.specs.Decision.{first_misplaced, has_id}
use Rattle.scan_rules.specs.Found.{is_missing, missing_of}
use Rattle.volume_rules.specs.Rules.{IsAccepted}
use Rattle.volume_rules.specs.declared.rule.Rule.TheVariants.{Ids}
use Rattle.volume_view.specs.Places.{primary}
use Rattle.volume_view.specs.View.{DisksDiffer}
use Rattle.volume_view.proofs.MetSegments.{all_at}
use Rattle.vg_found.specs.declared.disk.Disk.{Disk}
use Rattle.vg_found.specs.Disks.{disk_with, disks_of, header_on, shapes}
use Rattle.mda_ring.proofs.SpanLaws.{covers_tells}
use Rattle.group_edits.proofs.FirstSectors.{IsBesideEight, first_sectors, primary_beside_first_on}
use Rattle.list_laws.proofs.Inserted.{first_pairs, later_pairs, slice_get-pushed}
use Rattle.group_edits.specs.NewVolume.{MayHave, new_lv, with_volume}
use Rattle.image_scans.proofs.Again.{all_there}
use Rattle.image_scans.proofs.Makes.{HasDisk, disk_found}
use Rattle.volume_view.specs.InExtents.{IsInExtents}
use Rattle.image_scans.specs.Laws.{IsFree, in_spans}
use Rattle.volume_view.proofs.InExtents.{primary_in_extents}
use Rattle.image_scans.proofs.Placed.{IsPlaceOn, each_at, index_map, place_beside, present}

-- ---- different physical volumes are on different disks

abbrev Differ : List ℕ → List ℕ → Type 0
Differ a b = a ≢ b

at_below : {X : Type 0} (xs : List X) (k : ℕ) → k < length xs → (x : X) × (slice_get xs k ≡ Some x)
at_below [] k within = absurd (omega (arith, within))
at_below (x ∷ xs) zero within = (x, refl)
at_below (x ∷ xs) (suc k) within = at_below xs k (omega (arith, within))

-- where the images differ, those of two elements are the same at one place alone
module _ {X : Type 0} (f : X → List ℕ) (more : List (List ℕ)) where
  image_at : (xs : List X) (k : ℕ) (x : X) → slice_get xs k ≡ Some x → slice_get (map f xs ++ more) k ≡ Some (f x)
  image_at xs k x there = slice_get-pushed (map f xs) more k (f x) (slice_get-map f xs k ∙ ap (option_map f) there)

  one_place : (xs : List X) → AllPairs Differ (map f xs ++ more) → (i j : ℕ) (x y : X) → slice_get xs i ≡ Some x → slice_get xs j ≡ Some y
      → f x ≡ f y → i ≡ j
  one_place [] pairs i j x y at_i at_j same = absurd cc
  one_place (z ∷ xs) pairs zero zero x y at_i at_j same = refl
  one_place (z ∷ xs) pairs zero (suc j) x y at_i at_j same =
      absurd (all_at (Differ (f z)) (map f xs ++ more) j (f y) (first_pairs Differ (f z) (map f xs ++ more) pairs) (image_at xs j y at_j)
      (ap f (same_Some z x at_i) ∙ same))
  one_place (z ∷ xs) pairs (suc i) zero x y at_i at_j same =
      absurd (all_at (Differ (f z)) (map f xs ++ more) i (f x) (first_pairs Differ (f z) (map f xs ++ more) pairs) (image_at xs i x at_i)
      (ap f (same_Some z y at_j) ∙ sym same))
  one_place (z ∷ xs) pairs (suc i) (suc j) x y at_i at_j same =
      ap suc (one_place xs (later_pairs Differ (f z) (map f xs ++ more) pairs) i j x y at_i at_j same)

module _ (group : Group) (disks : List Disk) (accepted : IsAccepted group) (there : missing_of (shapes disks) group.pvs ≡ []) where
  -- the disk of a physical volume
  disk_of_pv : (k : ℕ) (pv : List ℕ × Pv) → slice_get group.pvs k ≡ Some pv → HasDisk disks pv.1.id
  disk_of_pv k pv is =
      disk_found pv.1.id disks
      (present pv.1.missing (list_any (has_id pv.1.id) (shapes disks))
      (each_at (λ (p : List ℕ × Pv). is_missing (shapes disks) p ≡ false) group.pvs k pv (all_there (shapes disks) group.pvs there) is))

  number_of_pv : (k : ℕ) (pv : List ℕ × Pv) → slice_get group.pvs k ≡ Some pv
      → slice_index (disks_of group disks) k ≡ disk_with disks pv.1.id
  number_of_pv k pv is = index_map (λ (p : List ℕ × Pv). disk_with disks p.1.id) group.pvs k pv is

  pub disks_differ : DisksDiffer group (disks_of group disks)
  disks_differ pv other within within' same =
      let a = at_below group.pvs pv within in
      let b = at_below group.pvs other within' in
      let x : HasDisk disks a.0.1.id = disk_of_pv pv a.0 a.1 in
      let y : HasDisk disks b.0.1.id = disk_of_pv other b.0 b.1 in
      let number : disk_with disks a.0.1.id ≡ disk_with disks b.0.1.id =
      sym (number_of_pv pv a.0 a.1) ∙ same ∙ number_of_pv other b.0 b.1 in
      let disk : x.disk ≡ y.disk = same_Some x.disk y.disk (sym x.there ∙ ap (slice_get disks) number ∙ y.there) in
      let header : x.header ≡ y.header = same_Some x.header y.header (sym x.is ∙ ap (λ (d : Disk). header_on d.contents) disk ∙ y.is) in
      let id : a.0.1.id ≡ b.0.1.id = sym x.same ∙ ap (λ (h : PvHeader). h.id) header ∙ y.same in
      one_place (λ (p : List ℕ × Pv). p.1.id) (map (λ (lv : List ℕ × Lv). lv.1.id) group.lvs) group.pvs
      (later_pairs Differ group.id (map (λ (p : List ℕ × Pv). p.1.id) group.pvs ++ map (λ (lv : List ℕ × Lv). lv.1.id) group.lvs)
      (accepted Ids))
      pv other a.0 b.0 a.1 b.1 id

-- ---- writes within eight sectors of a disk

-- the write lies within the eight sectors from this one on
pub record IsInEight (disk start : ℕ) (put : Put) : Type 0 where
  pub on : put.0.pv ≡ disk
  pub from : start ≤ put.0.first
  pub to : put.0.first + put.0.count ≤ start + 8

none_written : (disk start : ℕ) (puts : List Put) (pv sector : ℕ) (value : List ℕ) → All (IsInEight disk start) puts
    → (pv ≡ disk → IsBesideEight start sector) → IsWrittenBy puts pv sector value → ⊥
none_written disk start [] pv sector value all beside by = by
none_written disk start (put ∷ puts) pv sector value all beside (inl own) =
    let here : IsInEight disk start put = All-head (IsInEight disk start) put puts all in
    let t = covers_tells put.0 pv sector own.0 in
    let from : put.0.first ≤ sector = t.1 in
    let to : sector < put.0.first + put.0.count = t.2 in
    ⊎_elim
    (λ (before : sector < start). omega (arith, before, here.from, from))
    (λ (behind : start + 8 ≤ sector). omega (arith, behind, here.to, to))
    (beside (sym t.0 ∙ here.on))
none_written disk start (put ∷ puts) pv sector value all beside (inr more) =
    none_written disk start puts pv sector value (All-tail (IsInEight disk start) put puts all) beside more

-- such writes keep each sector beside these, and those of other disks
pub eight_kept : (disk start : ℕ) (puts : List Put) (pv sector : ℕ) → All (IsInEight disk start) puts
    → (pv ≡ disk → IsBesideEight start sector) → KeepsSector pv sector puts
eight_kept disk start puts pv sector all beside =
    keeps_sector puts pv sector (λ value by. none_written disk start puts pv sector value all beside by)

-- ---- the new volume

module _ (group : Group) (disks : List Disk) (accepted : IsAccepted group) (placed : first_misplaced group (shapes disks) ≡ None)
    (there : missing_of (shapes disks) group.pvs ≡ [])
    (name id : List ℕ) (kind : SegKind) (given : List Part) (now : ℕ) (may : MayHave group id kind given now)
    (part : Part) (is_part : slice_get given 0 ≡ Some part) (run : PartRun) (is_run : slice_get part.runs 0 ≡ Some run) (pv : List ℕ × Pv)
    (is_pv : slice_get group.pvs run.pv ≡ Some pv) where
  abbrev next : Group
  next = with_volume (name, new_lv id kind given now) group

  abbrev start : ℕ
  start = pv.1.pe_start + run.first * group.extent_size

  abbrev disk : ℕ
  disk = slice_index (disks_of group disks) run.pv

  -- its first eight sectors are behind the first sectors of the disk, and beside the metadata areas
  pub first_beside : IsAccepted next → (sector : ℕ) → sector < 8 → IsPlaceOn disks disk (start + sector)
  first_beside whole sector less =
      place_beside next disks whole placed there (length group.lvs) sector (record { pv = run.pv; sector = start + sector })
      (first_sectors group name id kind given now may accepted part is_part run is_run pv is_pv sector less)

  -- they are free in the group that was found
  pub first_free : IsAccepted next → (number sector : ℕ)
      → in_spans (record { pv = disk; first = start; count = 8 } ∷ []) number sector ≡ true
      → IsFree group (disks_of group disks) number sector
  first_free whole number sector among =
      let here : covers (record { pv = disk; first = start; count = 8 }) number sector ≡ true =
      ⊎_elim (λ is. is) (λ none. absurd (false≢true none))
      (or_cases (covers (record { pv = disk; first = start; count = 8 }) number sector) false among)
      in
      let t = covers_tells (record { pv = disk; first = start; count = 8 }) number sector here in
      let from : start ≤ sector = t.1 in
      let to : sector < start + 8 = t.2 in
      let same : start + (sector - start) ≡ sector = omega (arith, from) in
      let e : IsInExtents next (record { pv = run.pv; sector = start + (sector - start) }) =
      primary_in_extents next whole (length group.lvs) (sector - start) (record { pv = run.pv; sector = start + (sector - start) })
      (first_sectors group name id kind given now may accepted part is_part run is_run pv is_pv (sector - start) (omega (arith, from, to)))
      in
      record {
        lies = record {
          at = record { pv = run.pv; sector = start + (sector - start) };
          disk_is = t.0;
          sector_is = same;
          extents = record { pv = e.pv; is_pv = e.is_pv; from = e.from; to = e.to };
        };
        free = λ lv other place is on_disk at_sector.
            ⊎_elim
            (λ (before : place.sector < start). absurd (omega (arith, before, at_sector, from)))
            (λ (behind : start + 8 ≤ place.sector). absurd (omega (arith, behind, at_sector, to)))
            (primary_beside_first_on group name id kind given now may accepted part is_part run is_run pv is_pv (disks_of group disks)
            (disks_differ group disks accepted there) lv other place is (on_disk ∙ sym t.0));
      }

  -- writes within them keep each primary place of the group that was found
  pub first_keep : (puts : List Put) → All (IsInEight disk start) puts → (lv sector : ℕ) (at : At) → primary group lv sector ≡ Some at
      → KeepsSector (slice_index (disks_of group disks) at.pv) at.sector puts
  first_keep puts all lv sector at is =
      eight_kept disk start puts (slice_index (disks_of group disks) at.pv) at.sector all
      (primary_beside_first_on group name id kind given now may accepted part is_part run is_run pv is_pv (disks_of group disks)
      (disks_differ group disks accepted there) lv sector at is)
