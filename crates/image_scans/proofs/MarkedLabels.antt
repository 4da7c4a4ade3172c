-- The label sectors of disks that are written again, by what was found there.
use Rattle.std.proofs.Common.{◌≡◌, ℕ, suc, ◌+◌, Bool, true, false, cond, List, [], ◌∷◌, Option, Some, None, refl, subst, arith}
use Rattle.std.specs.Prelude.{All, option_map, slice_get}
use Rattle.std.specs.List.{cons_option, enumerate_from, filter_map}
use Rattle.std.specs.Option.{option_and_then}
use Rattle.std.specs.Ordering.{nat_cmp}
use Rattle.std.specs.FinSet as set
use Rattle.std.proofs.lemmas.List.Elements.{All-cons, All-nil}
use Rattle.std.proofs.lemmas.Option.{same_Some}
use Rattle.pv_header.specs.declared.header.PvHeader.{PvHeader}
use Rattle.vg_found.specs.declared.disk.Disk.{Disk}
use Rattle.group_plan.specs.Added.{pv_in}
use Rattle.group_plan.specs.Cleared.{marked_label, marked_labels}
use Rattle.group_plan.specs.Marks.{marked}
use Rattle.group_plan.specs.declared.state.NewLabel.{NewLabel}
use Rattle.image_scans.proofs.LabelsAgain.{IsLabelOn}

module _ (in_use : Bool) (among : set.FinSet nat_cmp) (all : List Disk) where
  abbrev label_with : ℕ → ℕ × PvHeader → NewLabel
  label_with number pv = record { disk = number; sector = pv.0; header = marked in_use pv.1 }

  label_by : (number : ℕ) (disk : Disk) → slice_get all number ≡ Some disk → (o : Option (ℕ × PvHeader))
      → option_and_then pv_in disk.contents ≡ o → (label : NewLabel) → option_map (label_with number) o ≡ Some label → IsLabelOn all label
  label_by number disk there None is label has = absurd cc
  label_by number disk there (Some pv) is label has =
      subst (IsLabelOn all) (same_Some (label_with number pv) label has)
      (disk, pv.1, there, is, record { id = refl; held = refl; areas = refl })

  label_if : (number : ℕ) (disk : Disk) → slice_get all number ≡ Some disk → (b : Bool) (label : NewLabel)
      → cond b (option_map (label_with number) (option_and_then pv_in disk.contents)) None ≡ Some label → IsLabelOn all label
  label_if number disk there true label has = label_by number disk there (option_and_then pv_in disk.contents) refl label has
  label_if number disk there false label has = absurd cc

  one_label : (o : Option NewLabel) (rest : List NewLabel) → ((label : NewLabel) → o ≡ Some label → IsLabelOn all label)
      → All (IsLabelOn all) rest → All (IsLabelOn all) (cons_option o rest)
  one_label None rest here each = each
  one_label (Some label) rest here each = All-cons (IsLabelOn all) label rest (here label refl) each

  labels_from : (first : ℕ) (disks : List Disk)
      → ((k : ℕ) (disk : Disk) → slice_get disks k ≡ Some disk → slice_get all (first + k) ≡ Some disk)
      → All (IsLabelOn all) (filter_map (marked_label in_use among) (enumerate_from first disks))
  labels_from first [] there = All-nil (IsLabelOn all)
  labels_from first (disk ∷ disks) there =
      let here : slice_get all first ≡ Some disk = subst (λ (n : ℕ). slice_get all n ≡ Some disk) (omega arith) (there 0 disk refl) in
      one_label (marked_label in_use among (first, disk)) (filter_map (marked_label in_use among) (enumerate_from (first + 1) disks))
      (λ label has. label_if first disk here (set.contains among first) label has)
      (labels_from (first + 1) disks (λ k d is. subst (λ (n : ℕ). slice_get all n ≡ Some d) (omega arith) (there (suc k) d is)))

-- each is that of the physical volume that was found on its disk
pub labels_on : (in_use : Bool) (among : set.FinSet nat_cmp) (disks : List Disk) → All (IsLabelOn disks) (marked_labels in_use among disks)
labels_on in_use among disks =
    labels_from in_use among disks 0 disks (λ k disk there. subst (λ (n : ℕ). slice_get disks n ≡ Some disk) (omega arith) there)
