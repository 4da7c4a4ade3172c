-- An area that is neither stale nor a stray's has its sectors once a repair is done.
use Rattle.std.proofs.Common.{◌≡◌, ◌≤◌, ◌<◌, ℕ, ◌+◌, ◌/◌, false, List, length, get_or, Option, Some, ⊎_elim, refl, sym, ap, ◌∙◌, arith}
use Rattle.std.specs.Prelude.{slice_get}
use Rattle.std.specs.FinSet.{contains}
use Rattle.std.proofs.lemmas.Bool.{true≢false}
use Rattle.std.proofs.lemmas.List.Elements.{All-filter, filter_passes}
use Rattle.std.proofs.lemmas.Option.{slice_get-get_or}
use Rattle.disk_model.specs.Steps.{Image}
use Rattle.pv_header.specs.declared.header.PvHeader.{PvHeader}
use Rattle.mda_header.specs.declared.header.Locn.{Locn}
use Rattle.mda_ring.specs.declared.area.Area.{Area}
use Rattle.mda_ring.specs.Areas.{CanTake}
use Rattle.disk_batch.specs.InTurn.{with_batches}
use Rattle.disk_contents.specs.declared.contents.AreaFound.{AreaFound}
use Rattle.disk_contents.specs.declared.contents.PvFound.{PvFound}
use Rattle.disk_contents.specs.declared.contents.PvFound.TheVariants.{Whole}
use Rattle.vg_found.specs.declared.disk.Disk.{Disk}
use Rattle.vg_found.specs.declared.found.Found.{Found}
use Rattle.vg_found.specs.Disks.{areas_on, held_area}
use Rattle.vg_commit.proofs.Disks.{no_area}
use Rattle.group_plan.specs.Judging.{lies_on}
use Rattle.change_batches.proofs.LabelPuts.{label_where, no_label}
use Rattle.vg_repair.specs.Batches.{new_labels, repair_batches, stray_areas}
use Rattle.vg_repair.specs.Stale.{is_among, stale_areas}
use Rattle.vg_repair.proofs.NewLabels.{labels_can}
use Rattle.image_scans.proofs.FoundAreas.{IsPlaced}
use Rattle.image_scans.proofs.Front.{batches_or}
use Rattle.image_scans.proofs.MetAreas.{all_placed, area_met}
use Rattle.repair_scans.specs.Laws.{CanRepair}
use Rattle.repair_scans.proofs.NumberedAreas.{stale_number}
use Rattle.repair_scans.proofs.RepairOnTheWay.{are_disks, cleared_on_disks, stale_on_disks, writes}
use Rattle.repair_scans.proofs.StraysApart.{in_at}

module _ (base : Image) (sizes : List ℕ) (found : Found) (p : CanRepair base sizes found) (pv : ℕ) (disk : Disk)
    (there : slice_get found.disks pv ≡ Some disk) (label : ℕ) (header : PvHeader) (areas : List AreaFound)
    (is : disk.contents ≡ Some (Whole label header areas)) (n : ℕ) (d : AreaFound) (within : n < length areas) where
  abbrev area : AreaFound
  area = get_or areas n d

  abbrev last : Image
  last = with_batches (repair_batches found) base

  -- where it isn't ignored, it is neither on a stray nor stale
  abbrev pub IsUnwritten : Type 0
  IsUnwritten =
      (held : Area × Option Locn) → held_area pv area ≡ Some held → (contains found.strays pv ≡ false) × (is_among found.stale pv n ≡ false)

  -- it is there by its number
  pub area_at : slice_get (areas_on disk.contents) n ≡ Some area
  area_at = ap (λ (c : Option PvFound). slice_get (areas_on c) n) is ∙ slice_get-get_or areas n d within

  placed : IsPlaced areas area
  placed = all_placed found.disks (are_disks base sizes found p) pv disk there label header areas is n d within

  -- then each of its sectors is as in the base
  pub sectors_kept : IsUnwritten → (sector : ℕ) → area.area.offset / 512 ≤ sector → sector < area.area.offset / 512 + area.area.size / 512
      → last pv sector ≡ base pv sector
  sectors_kept unwritten sector from to =
      ⊎_elim
      (λ same. same)
      (λ by.
      ⊎_elim
      (λ texts.
      let s : Area × Option Locn = get_or (stale_areas found) texts.number no_area in
      let met : held_area pv area ≡ Some s =
      area_met found.disks (are_disks base sizes found p) pv disk there label header areas is n d within s
      (stale_on_disks base sizes found p texts.number no_area texts.among) texts.disk sector texts.from texts.to from to
      in
      absurd (true≢false (sym (stale_number found p.shape pv disk there s (in_at (stale_areas found) texts.number no_area texts.among)
      texts.disk n area s area_at met refl) ∙ (unwritten s met).1)))
      (λ other.
      ⊎_elim
      (λ at.
      let w = label_where (new_labels found) no_label pv sector (last pv sector) at in
      let low : (get_or (new_labels found) w.0 no_label).sector < 4 =
      (labels_can found p.shape w.0 no_label w.1).sector_below in
      absurd (omega (arith, low, w.3, placed.far, from)))
      (λ clear.
      let c : Area × Option Locn = get_or (stray_areas found) clear.number no_area in
      let take : CanTake c = All-filter (lies_on found.strays) CanTake found.areas p.shape.take clear.number no_area clear.among in
      let met : held_area pv area ≡ Some c =
      area_met found.disks (are_disks base sizes found p) pv disk there label header areas is n d within c
      (cleared_on_disks base sizes found p clear.number no_area clear.among) clear.disk sector (omega (arith, clear.at))
      (omega (arith, clear.at, take.0.has_ring)) from to
      in
      absurd (true≢false (sym (filter_passes (lies_on found.strays) found.areas clear.number no_area clear.among)
      ∙ ap (contains found.strays) clear.disk ∙ (unwritten c met).0)))
      other)
      (writes base sizes found p pv sector (last pv sector) by))
      (batches_or (repair_batches found) base pv sector)
