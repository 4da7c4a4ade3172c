-- Labels that are written again: the physical volume of each disk is read as before, with the same id and areas.
use Rattle.std.proofs.Common.{◌≡◌, ◌<◌, ◌⊎◌, ℕ, List, [], length, get_or, map, Option, Some, None, inl, inr, ⊎_elim, sym, ap, subst, ◌∙◌}
use Rattle.std.proofs.Common.{arith}
use Rattle.std.specs.Prelude.{All, slice_get}
use Rattle.std.specs.Option.{option_and_then}
use Rattle.std.proofs.lemmas.Option.{same_Some}
use Rattle.disk_model.specs.Steps.{Image}
use Rattle.pv_label.specs.Label.{IsLabel}
use Rattle.pv_header.specs.PvHeader.{IsPvHeader}
use Rattle.pv_header.specs.declared.header.PvHeader.{PvHeader}
use Rattle.disk_batch.specs.Writes.{IsWrittenBy}
use Rattle.disk_contents.specs.declared.contents.AreaFound.{AreaFound}
use Rattle.disk_contents.specs.declared.contents.PvFound.TheVariants.{Whole}
use Rattle.vg_found.specs.declared.disk.Disk.{Disk}
use Rattle.group_plan.specs.Added.{pv_in}
use Rattle.group_plan.specs.declared.state.NewLabel.{NewLabel}
use Rattle.change_batches.specs.Batches.{label_bytes, label_put}
use Rattle.change_batches.specs.Sound.{CanLabel}
use Rattle.change_batches.proofs.LabelPuts.{label_where, no_label}
use Rattle.change_batches.proofs.LabelsRead.{label_read}
use Rattle.image_scans.proofs.DiskAgain.{LabelStands}
use Rattle.image_scans.proofs.Labels.{IsSameHeader}

-- it is that of the physical volume that was found on its disk, whose header differs in its version and flags alone
abbrev pub IsLabelOn : List Disk → NewLabel → Type 0
IsLabelOn disks label =
    (disk : Disk) × (old : PvHeader) × (slice_get disks label.disk ≡ Some disk)
    × (option_and_then pv_in disk.contents ≡ Some (label.sector, old)) × IsSameHeader old label.header

module _ (disks : List Disk) (labels : List NewLabel) (on : All (IsLabelOn disks) labels) (pv : ℕ) (disk : Disk)
    (there : slice_get disks pv ≡ Some disk) where
  -- a label that is written to the disk stands where that of its physical volume was found
  record WritesLabel (sector : ℕ) (value : List ℕ) : Type 0 where
    number : ℕ
    among : number < length labels
    old : PvHeader
    found : option_and_then pv_in disk.contents ≡ Some (sector, old)
    same : IsSameHeader old (get_or labels number no_label).header
    at : (get_or labels number no_label).sector ≡ sector
    is : value ≡ label_bytes (get_or labels number no_label)

  writes_label : (sector : ℕ) (value : List ℕ) → IsWrittenBy (map label_put labels) pv sector value → WritesLabel sector value
  writes_label sector value by =
      let w = label_where labels no_label pv sector value by in
      let l : IsLabelOn disks (get_or labels w.0 no_label) = on w.0 no_label w.1 in
      let own : disk ≡ l.0 = same_Some disk l.0 (sym there ∙ ap (slice_get disks) (sym w.2) ∙ l.2) in
      record {
        number = w.0;
        among = w.1;
        old = l.1;
        found = ap (λ (d : Disk). option_and_then pv_in d.contents) own ∙ l.3 ∙ ap (λ (at : ℕ). Some (at, l.1)) w.3;
        same = l.4;
        at = w.3;
        is = w.4;
      }

  -- without a physical volume none is written
  pub none_written : option_and_then pv_in disk.contents ≡ None → (sector : ℕ) (value : List ℕ)
      → IsWrittenBy (map label_put labels) pv sector value → ⊥
  none_written none sector value by =
      let w : WritesLabel sector value = writes_label sector value by in
      let never : ◌≡◌ {A = Option (ℕ × PvHeader)} None (Some (sector, w.old)) = sym none ∙ w.found in cc

  -- where the first sectors are as they were or have labels that are read, the label reads again
  module _ (can : All CanLabel labels) (read : All (λ (label : NewLabel). IsPvHeader (label_bytes label) label.header []) labels)
      (base image : Image)
      (near : (sector : ℕ) → sector < 4 → (image pv sector ≡ base pv sector)
      ⊎ IsWrittenBy (map label_put labels) pv sector (image pv sector))
      (label : ℕ) (header : PvHeader) (areas : List AreaFound) (is : disk.contents ≡ Some (Whole label header areas)) (low : label < 4)
    where
      own_label : (sector : ℕ) (old : PvHeader) → option_and_then pv_in disk.contents ≡ Some (sector, old)
          → ◌≡◌ {A = ℕ × PvHeader} (label, header) (sector, old)
      own_label sector old found = same_Some (label, header) (sector, old) (sym (ap (option_and_then pv_in) is) ∙ found)

      pub label_stands : LabelStands (base pv) (image pv) label header
      label_stands = record {
        before = λ k less.
            ⊎_elim
            (λ same. same)
            (λ by.
            let w : WritesLabel k (image pv k) = writes_label k (image pv k) by in
            let at : label ≡ k = ap (λ (x : ℕ × PvHeader). x.0) (own_label k w.old w.found) in
            absurd (omega (arith, less, at)))
            (near k (omega (arith, less, low)));
        is =
            ⊎_elim
            (λ same. inl same)
            (λ by.
            let w : WritesLabel label (image pv label) = writes_label label (image pv label) by in
            let new : NewLabel = get_or labels w.number no_label in
            inr (
              new.header,
              subst (λ (old : PvHeader). IsSameHeader old new.header)
                  (sym (ap (λ (x : ℕ × PvHeader). x.1) (own_label label w.old w.found))) w.same,
              subst (λ (s : List ℕ). IsLabel s label) (sym w.is)
                  (subst (λ (n : ℕ). IsLabel (label_bytes new) n) w.at (label_read new (can w.number no_label w.among))),
              subst (λ (s : List ℕ). IsPvHeader s new.header []) (sym w.is) (read w.number no_label w.among),
            ))
            (near label low);
      }
