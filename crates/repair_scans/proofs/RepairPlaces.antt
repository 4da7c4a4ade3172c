-- A repair writes no primary place of the group that was found.
use Rattle.std.proofs.Common.{◌≡◌, ◌≤◌, ◌<◌, ℕ, false, List, [], get_or, Option, Some, None, inr, sym, subst, ◌∙◌, arith}
use Rattle.std.specs.Prelude.{All, IfSome, slice_get, slice_index}
use Rattle.std.proofs.lemmas.Bool.{false_from_ne_true}
use Rattle.std.proofs.lemmas.List.Elements.{All-filter}
use Rattle.sector_base.specs.Spans.{covers}
use Rattle.sector_base.specs.declared.places.At.{At}
use Rattle.disk_model.specs.Steps.{Image}
use Rattle.mda_header.specs.declared.header.Locn.{Locn}
use Rattle.mda_ring.specs.declared.area.Area.{Area}
use Rattle.mda_ring.specs.Areas.{CanTake}
use Rattle.mda_ring.proofs.SpanLaws.{covers_tells}
use Rattle.meta_model.specs.declared.group.Group.{Group}
use Rattle.volume_view.specs.Places.{primary}
use Rattle.volume_view.specs.View.{at_place}
use Rattle.scan_rules.specs.Decision.{first_misplaced}
use Rattle.scan_rules.specs.Found.{missing_of}
use Rattle.disk_batch.specs.InTurn.{HasFirstBatches}
use Rattle.vg_found.specs.declared.disk.Disk.{Disk}
use Rattle.vg_found.specs.declared.found.Found.{Found}
use Rattle.vg_found.specs.Disks.{disks_of, shapes}
use Rattle.vg_found.specs.Shape.{IsDisk}
use Rattle.vg_commit.specs.Written.{area_span, header_span}
use Rattle.group_plan.specs.Judging.{lies_on}
use Rattle.vg_repair.specs.Batches.{new_labels, repair_batches}
use Rattle.vg_repair.specs.Laws.{IsOther}
use Rattle.vg_repair.proofs.HeldAreas.{stale_all}
use Rattle.vg_repair.proofs.NewLabels.{labels_can}
use Rattle.image_scans.proofs.FoundAreas.{IsHeldOn, all_held}
use Rattle.image_scans.proofs.Placed.{IsPlaceOn, place_beside}
use Rattle.image_scans.proofs.BesideAreas.{beside_areas}
use Rattle.repair_scans.specs.Laws.{CanRepair}
use Rattle.repair_scans.proofs.FoundGroup.{found_accepted}
use Rattle.repair_scans.proofs.RepairOnTheWay.{shown}

module _ (base : Image) (sizes : List ℕ) (found : Found) (p : CanRepair base sizes found) (group : Group)
    (is_group : found.group ≡ Some group) where
  listed : found.disk_of ≡ disks_of group found.disks
  listed = subst (λ (o : Option Group). IfSome o (λ g. found.disk_of ≡ disks_of g found.disks)) is_group p.shape.disk_of

  placed : first_misplaced group (shapes found.disks) ≡ None
  placed = subst (λ (o : Option Group). IfSome o (λ g. first_misplaced g (shapes found.disks) ≡ None)) is_group p.shape.placed

  none_away : missing_of (shapes found.disks) group.pvs ≡ []
  none_away =
      sym (subst (λ (o : Option Group). IfSome o (λ g. found.missing ≡ missing_of (shapes found.disks) g.pvs)) is_group p.shape.missing)
      ∙ p.whole.there

  are_disks : (pv : ℕ) (disk : Disk) → slice_get found.disks pv ≡ Some disk → IsDisk pv disk
  are_disks pv disk there = (p.shape.disks pv disk there).0

  held : All (IsHeldOn found.disks) found.areas
  held = subst (All (IsHeldOn found.disks)) (sym p.shape.areas) (all_held found.disks are_disks)

  module _ (lv sector : ℕ) (at : At) (is : primary group lv sector ≡ Some at) where
    abbrev number : ℕ
    number = slice_index (disks_of group found.disks) at.pv

    on : IsPlaceOn found.disks number at.sector
    on = place_beside group found.disks (found_accepted base sizes found p.scan group is_group) placed none_away lv sector at is

    outside : (a : Area × Option Locn) → IsHeldOn found.disks a → covers (area_span a.0) number at.sector ≡ false
    outside a is_held =
        false_from_ne_true (covers (area_span a.0) number at.sector)
        (λ inside. let t = covers_tells (area_span a.0) number at.sector inside in beside_areas found.disks are_disks number at.sector on a
        is_held t.0 t.1 t.2)

    no_header : (a : Area × Option Locn) → IsHeldOn found.disks a → CanTake a → covers (header_span a.0) number at.sector ≡ false
    no_header a is_held take =
        false_from_ne_true (covers (header_span a.0) number at.sector)
        (λ inside.
        let t = covers_tells (header_span a.0) number at.sector inside in
        beside_areas found.disks are_disks number at.sector on a is_held t.0 t.1 (omega (arith, t.2, take.0.has_ring)))

    other : IsOther found number at.sector
    other = record {
      stale =
          stale_all found p.shape (λ (a : Area × Option Locn). covers (area_span a.0) number at.sector ≡ false)
          (λ k d within. outside (get_or found.areas k d) (held k d within));
      labels =
          λ k d within. inr (λ same. let low : (get_or (new_labels found) k d).sector
          < 4 = (labels_can found p.shape k d within).sector_below in let behind : 8
          ≤ at.sector = on.beside.behind in omega (arith, low, same, behind));
      headers =
          All-filter (lies_on found.strays) (λ (a : Area × Option Locn). covers (header_span a.0) number at.sector ≡ false) found.areas
          (λ k d within. no_header (get_or found.areas k d) (held k d within) (p.shape.take k d within));
    }

    pub place_kept : (image : Image) → HasFirstBatches (repair_batches found) base image
        → at_place image found.disk_of at ≡ at_place base found.disk_of at
    place_kept image h =
        subst (λ (l : List ℕ). at_place image l at ≡ at_place base l at) (sym listed)
        ((p.keeps.kept base image (shown base sizes found p) h).others number at.sector other)
