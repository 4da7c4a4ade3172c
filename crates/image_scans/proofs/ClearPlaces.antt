-- While disks are cleared each primary place of the group that was found keeps what it has.
use Rattle.std.proofs.Common.{◌≡◌, ◌≤◌, ◌<◌, ℕ, false, List, get_or, Option, Some, None, inr, sym, subst, arith}
use Rattle.std.specs.Prelude.{All, IfSome, slice_index}
use Rattle.std.specs.Ordering.{nat_cmp}
use Rattle.std.specs.FinSet.{FinSet}
use Rattle.std.proofs.lemmas.Bool.{false_from_ne_true}
use Rattle.std.proofs.lemmas.List.Elements.{All-filter}
use Rattle.sector_base.specs.Spans.{covers}
use Rattle.sector_base.specs.declared.places.At.{At}
use Rattle.lvm_script.specs.declared.line.Line.{Line}
use Rattle.disk_model.specs.Steps.{Image}
use Rattle.mda_header.specs.declared.header.Locn.{Locn}
use Rattle.mda_ring.specs.Areas.{CanTake}
use Rattle.mda_ring.specs.declared.area.Area.{Area}
use Rattle.mda_ring.proofs.SpanLaws.{covers_tells}
use Rattle.meta_model.specs.declared.group.Group.{Group}
use Rattle.volume_view.specs.Places.{primary}
use Rattle.volume_view.specs.View.{at_place}
use Rattle.extent_alloc.specs.declared.part.Part.{Part}
use Rattle.scan_rules.specs.Decision.{first_misplaced}
use Rattle.disk_batch.specs.InTurn.{HasFirstBatches}
use Rattle.vg_found.specs.declared.found.Found.{Found}
use Rattle.vg_found.specs.Disks.{disks_of, shapes}
use Rattle.vg_commit.specs.Written.{header_span}
use Rattle.group_plan.specs.Cleared.{unused_labels}
use Rattle.group_plan.specs.Judging.{lies_on}
use Rattle.group_plan.specs.declared.backup.Backup.{Backup}
use Rattle.group_ops.specs.Laws.{state_in}
use Rattle.group_ops.specs.Planning.{change_of}
use Rattle.change_batches.specs.Building.{AreScanned}
use Rattle.change_batches.specs.Laws.{IsUncleared}
use Rattle.change_batches.proofs.ClearedAreas.{each_takes, state_scanned}
use Rattle.change_batches.proofs.MarkedLabels.{labels_can}
use Rattle.vg_change.specs.LineBatches.{clears_of}
use Rattle.image_scans.specs.Laws.{CanCarryOut, ClearsKeepPlaces}
use Rattle.image_scans.proofs.BesideAreas.{beside_areas}
use Rattle.image_scans.proofs.CommitCommands.{none_missing_of, old_whole}
use Rattle.image_scans.proofs.CommitLine.{is_state, settled}
use Rattle.image_scans.proofs.FoundAreas.{IsHeldOn, all_held}
use Rattle.image_scans.proofs.Placed.{IsPlaceOn, place_beside}

module _ (base : Image) (sizes : List ℕ) (found : Found) (names : List (List ℕ)) (backup : Option Backup) (line : Line) (now : ℕ)
    (given : List Part) (p : CanCarryOut base sizes found names backup line now given) (group : Group) (is_group : found.group ≡ Some group)
  where
    abbrev cleared_of_line : FinSet nat_cmp
    cleared_of_line = (change_of (state_in found names backup) line now given).cleared

    listed : found.disk_of ≡ disks_of group found.disks
    listed = subst (λ (o : Option Group). IfSome o (λ g. found.disk_of ≡ disks_of g found.disks)) is_group p.shape.disk_of

    placed : first_misplaced group (shapes found.disks) ≡ None
    placed = subst (λ (o : Option Group). IfSome o (λ g. first_misplaced g (shapes found.disks) ≡ None)) is_group p.shape.placed

    scanned : AreScanned found.disks found.areas
    scanned = state_scanned (state_in found names backup) (is_state base sizes found names backup line now given p)

    held : All (IsHeldOn found.disks) found.areas
    held = subst (All (IsHeldOn found.disks)) (sym p.shape.areas) (all_held found.disks scanned.each)

    module _ (lv sector : ℕ) (at : At) (is : primary group lv sector ≡ Some at) where
      abbrev number : ℕ
      number = slice_index (disks_of group found.disks) at.pv

      on : IsPlaceOn found.disks number at.sector
      on =
          place_beside group found.disks (old_whole p.scan.readings found (settled base sizes found names backup line now given p) group
          is_group).0 placed (none_missing_of found p.shape p.whole group is_group) lv sector at is

      no_header : (a : Area × Option Locn) → IsHeldOn found.disks a → CanTake a → covers (header_span a.0) number at.sector ≡ false
      no_header a is_held take =
          false_from_ne_true (covers (header_span a.0) number at.sector)
          (λ inside.
          let t = covers_tells (header_span a.0) number at.sector inside in
          beside_areas found.disks scanned.each number at.sector on a is_held t.0 t.1 (omega (arith, t.2, take.0.has_ring)))

      uncleared : IsUncleared cleared_of_line found.disks found.areas number at.sector
      uncleared = record {
        labels = λ k d within.
            inr (λ same.
            let low : (get_or (unused_labels cleared_of_line found.disks) k d).sector < 4 =
            (labels_can found.disks found.areas scanned false cleared_of_line k d within).sector_below in
            let behind : 8 ≤ at.sector = on.beside.behind in
            omega (arith, low, same, behind));
        headers =
            All-filter (lies_on cleared_of_line) (λ (a : Area × Option Locn). covers (header_span a.0) number at.sector ≡ false) found.areas
            (λ k d within. no_header (get_or found.areas k d) (held k d within) (each_takes found.disks found.areas scanned k d within));
      }

      pub place_kept : (mid image : Image) → HasFirstBatches (clears_of (state_in found names backup) line now given) mid image
          → at_place image found.disk_of at ≡ at_place mid found.disk_of at
      place_kept mid image h =
          subst (λ (l : List ℕ). at_place image l at ≡ at_place mid l at) (sym listed)
          ((p.keeps.clears.kept mid image h).others number at.sector uncleared)

pub clears_keep_places : ClearsKeepPlaces
clears_keep_places base mid image sizes found names backup line now given group p is_group h lv sector at is =
    place_kept base sizes found names backup line now given p group is_group lv sector at is mid image h
