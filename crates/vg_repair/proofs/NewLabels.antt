-- The label sectors that a repair writes, to old disks and to strays.
use Rattle.std.proofs.Common.{◌≡◌, ◌≢◌, ◌<◌, ◌⊎◌, ℕ, Bool, true, false, List, ◌++◌, length, map, get_or, Some, sym, ap, subst, ◌∙◌}
use Rattle.std.specs.Prelude.{All, slice_get}
use Rattle.std.specs.Ordering.{nat_cmp}
use Rattle.std.specs.FinSet as set
use Rattle.std.proofs.lemmas.Bool.{true≢false}
use Rattle.std.proofs.lemmas.List.{append_assoc}
use Rattle.std.proofs.lemmas.List.Elements.{All-append}
use Rattle.disk_model.specs.Steps.{Image}
use Rattle.disk_batch.specs.InTurn.{HasFirstBatches, Put, with_batches}
use Rattle.disk_batch.proofs.FrontBatches.{KeepsSector}
use Rattle.vg_found.specs.Shape.{HasShape}
use Rattle.vg_found.specs.declared.disk.Disk.{Disk}
use Rattle.vg_found.specs.declared.found.Found.{Found}
use Rattle.group_plan.specs.Cleared.{marked_label, marked_labels}
use Rattle.group_plan.specs.declared.state.NewLabel.{NewLabel}
use Rattle.change_batches.specs.Batches.{batch_if, clear_put, label_bytes, label_put}
use Rattle.change_batches.specs.Laws.{LabelsKept}
use Rattle.change_batches.specs.Sound.{sizes_of, CanLabel}
use Rattle.change_batches.proofs.ClearedImages.{headers_keep}
use Rattle.change_batches.proofs.LabelPuts.{AreApart, all_if, labels_after, labels_keep_other, labels_kept as each_kept}
use Rattle.change_batches.proofs.LabelsRead.{CanBeFound}
use Rattle.change_batches.proofs.MarkedLabels.{IsLabelOf, label_is as marked_is, labels_among, labels_can as marked_can}
use Rattle.change_batches.proofs.MarkedLabels.{labels_differ as marked_differ, labels_found as marked_found}
use Rattle.vg_repair.specs.Batches.{new_labels, old_labels, repair_batches, stale_batches, stray_areas, stray_labels}
use Rattle.vg_repair.specs.Laws.{StraysAreOthers}
use Rattle.vg_repair.specs.Stale.{stale_areas, text_of}
use Rattle.vg_repair.proofs.HeldAreas.{are_scanned}

module _ (found : Found) (shape : HasShape found) where
  -- those of some disks
  pub some_can : (in_use : Bool) (among : set.FinSet nat_cmp) → All CanLabel (marked_labels in_use among found.disks)
  some_can in_use among = marked_can found.disks found.areas (are_scanned found shape) in_use among

  some_differ : (in_use : Bool) (among : set.FinSet nat_cmp) → AreApart (marked_labels in_use among found.disks)
  some_differ in_use among = marked_differ found.disks found.areas (are_scanned found shape) in_use among

  -- that of one disk
  pub label_is : (in_use : Bool) (among : set.FinSet nat_cmp) (pv : ℕ) (disk : Disk) → slice_get found.disks pv ≡ Some disk
      → (label : NewLabel) → marked_label in_use among (pv, disk) ≡ Some label → IsLabelOf (sizes_of found.disks) pv label
  label_is in_use among = marked_is found.disks found.areas (are_scanned found shape) in_use among

  pub labels_can : All CanLabel (new_labels found)
  labels_can = All-append CanLabel (old_labels found) (stray_labels found) (some_can true found.old) (some_can false found.strays)

  pub labels_found : All (λ (label : NewLabel). CanBeFound label.header) (new_labels found)
  labels_found =
      All-append (λ (label : NewLabel). CanBeFound label.header) (old_labels found) (stray_labels found)
      (marked_found found.disks found.areas (are_scanned found shape) true found.old)
      (marked_found found.disks found.areas (are_scanned found shape) false found.strays)

  module _ (others : StraysAreOthers found) where
    abbrev texts : List (List Put)
    texts = stale_batches (text_of found) (stale_areas found)

    abbrev olds : List (List Put)
    olds = batch_if (map label_put (old_labels found))

    abbrev strays : List (List Put)
    strays = batch_if (map label_put (stray_labels found))

    abbrev headers : List (List Put)
    headers = batch_if (map clear_put (stray_areas found))

    -- no old disk is a stray
    apart : (k : ℕ) (d : NewLabel) → k < length (old_labels found) → (j : ℕ) (e : NewLabel) → j < length (stray_labels found)
        → (get_or (old_labels found) k d).disk ≢ (get_or (stray_labels found) j e).disk
    apart k d within j e inside same =
        true≢false (sym (labels_among false found.strays found.disks j e inside) ∙ ap (set.contains found.strays) (sym same)
        ∙ others.old (get_or (old_labels found) k d).disk (labels_among true found.old found.disks k d within))

    -- the labels of each leave those of the other, and so do the headers of areas
    old_behind : All (λ (label : NewLabel). All (KeepsSector label.disk label.sector) (strays ++ headers)) (old_labels found)
    old_behind k d within =
        let label : NewLabel = get_or (old_labels found) k d in
        All-append (KeepsSector label.disk label.sector) strays headers
        (all_if (KeepsSector label.disk label.sector) (map label_put (stray_labels found))
        (labels_keep_other (stray_labels found) label.disk label.sector (λ j e inside same. apart k d within j e inside (sym same))))
        (headers_keep found.disks found.areas (are_scanned found shape) found.strays label.disk label.sector
        (some_can true found.old k d within).sector_below)

    stray_before : All (λ (label : NewLabel). All (KeepsSector label.disk label.sector) olds) (stray_labels found)
    stray_before k d within =
        let label : NewLabel = get_or (stray_labels found) k d in
        all_if (KeepsSector label.disk label.sector) (map label_put (old_labels found))
        (labels_keep_other (old_labels found) label.disk label.sector (λ j e inside. apart j e inside k d within))

    stray_behind : All (λ (label : NewLabel). All (KeepsSector label.disk label.sector) headers) (stray_labels found)
    stray_behind k d within =
        let label : NewLabel = get_or (stray_labels found) k d in
        headers_keep found.disks found.areas (are_scanned found shape) found.strays label.disk label.sector
        (some_can false found.strays k d within).sector_below

    module _ (base : Image) where
      -- once all is written each has its label
      abbrev IsLast : List (List Put) → NewLabel → Type 0
      IsLast batches label = with_batches batches base label.disk label.sector ≡ label_bytes label

      pub labels_last : All (λ (label : NewLabel). with_batches (repair_batches found) base label.disk label.sector ≡ label_bytes label)
          (new_labels found)
      labels_last =
          All-append (IsLast (repair_batches found)) (old_labels found) (stray_labels found)
          (labels_after texts (old_labels found) (strays ++ headers) (some_differ true found.old) old_behind base)
          (subst (λ (batches : List (List Put)). All (IsLast batches) (stray_labels found)) (append_assoc (texts ++ olds) strays headers)
          (labels_after (texts ++ olds) (stray_labels found) headers (some_differ false found.strays) stray_behind base))

      -- and on the way it, or what it had
      pub labels_kept : ((pv sector : ℕ) → sector < 4 → All (KeepsSector pv sector) texts) → (image : Image)
          → HasFirstBatches (repair_batches found) base image → LabelsKept (new_labels found) base image
      labels_kept near image h =
          All-append (λ (label : NewLabel). (image label.disk label.sector ≡ base label.disk label.sector)
          ⊎ (image label.disk label.sector ≡ label_bytes label)) (old_labels found) (stray_labels found)
          (each_kept texts (old_labels found) (strays ++ headers) (some_differ true found.old) old_behind base
          (λ k d within. near (get_or (old_labels found) k d).disk (get_or (old_labels found) k d).sector
          (some_can true found.old k d within).sector_below) image h)
          (each_kept (texts ++ olds) (stray_labels found) headers (some_differ false found.strays) stray_behind base
          (λ k d within.
          let label : NewLabel = get_or (stray_labels found) k d in
          All-append (KeepsSector label.disk label.sector) texts olds
          (near label.disk label.sector (some_can false found.strays k d within).sector_below) (stray_before k d within)) image
          (subst (λ (batches : List (List Put)). HasFirstBatches batches base image) (sym (append_assoc (texts ++ olds) strays headers)) h))
