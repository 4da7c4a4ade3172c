-- The label sectors of disks that are written again can be written, each on a disk of its own, and are read again.
use Rattle.std.proofs.Common.{◌≡◌, ◌≢◌, ◌≤◌, ◌<◌, ℕ, suc, ◌+◌, ◌*◌, ◌^◌, Bool, true, false, cond, List, [], ◌∷◌, length, map, Option, Some}
use Rattle.std.proofs.Common.{None, refl, sym, ap, subst, ◌∙◌, arith}
use Rattle.std.specs.Prelude.{All, AllPairs, option_map, slice_get}
use Rattle.std.specs.List.{cons_option, enumerate_from, filter_map}
use Rattle.std.specs.Option.{option_and_then}
use Rattle.std.specs.Ordering.{nat_cmp}
use Rattle.std.specs.FinSet as set
use Rattle.std.proofs.lemmas.List.Elements.{All-append, All-cons, All-nil, All-weaker}
use Rattle.std.proofs.lemmas.List.Kept.{AllPairs-cons}
use Rattle.std.proofs.lemmas.Option.{same_Some, slice_get_within}
use Rattle.pv_header.specs.PvHeader.{IsPvHeader}
use Rattle.pv_header.specs.PvRefusal.{Reads}
use Rattle.pv_header.specs.declared.extent_list.Extent.{Extent}
use Rattle.pv_header.specs.declared.header.PvHeader.{PvHeader}
use Rattle.mda_header.specs.declared.header.Locn.{Locn}
use Rattle.mda_ring.specs.declared.area.Area.{Area}
use Rattle.disk_contents.specs.declared.contents.AreaFound.{AreaFound}
use Rattle.disk_contents.specs.declared.contents.PvFound.{PvFound}
use Rattle.disk_contents.specs.declared.contents.PvFound.TheVariants.{NoLabel, NoHeader, Whole}
use Rattle.disk_batch.specs.declared.batch.Batch.{Batch}
use Rattle.vg_found.specs.Shape.{ContentsCanStand, IsDisk}
use Rattle.vg_found.specs.declared.disk.Disk.{Disk}
use Rattle.group_plan.specs.Added.{pv_in}
use Rattle.group_plan.specs.Cleared.{marked_label, marked_labels}
use Rattle.group_plan.specs.Marks.{marked}
use Rattle.group_plan.specs.declared.state.NewLabel.{NewLabel}
use Rattle.change_batches.specs.Batches.{label_put}
use Rattle.change_batches.specs.Building.{AreLabelsAdded, AreScanned, IsAdded}
use Rattle.change_batches.specs.Sound.{sizes_of, CanLabel, FitsFields, LabelLies}
use Rattle.change_batches.proofs.Adding.{added_run, added_writes}
use Rattle.change_batches.proofs.HeldInDisks.{HasSize, has_size}
use Rattle.change_batches.proofs.LabelBatch.{label_batch}
use Rattle.change_batches.proofs.LabelsRead.{CanBeFound}
use Rattle.change_batches.proofs.FittingAreas.{fit_both}

-- the label can be written to its disk, which is the one with this number, and its header can be read there
pub record IsLabelOf (sizes : List ℕ) (pv : ℕ) (label : NewLabel) : Type 0 where
  pub same : label.disk ≡ pv
  pub can : CanLabel label
  pub lies : LabelLies sizes label
  pub found : CanBeFound label.header

-- lists that are read from a sector fit into one
lists_fit : (sector : List ℕ) (header : PvHeader) → IsPvHeader sector header [] → length header.data_areas + length header.areas ≤ 24
lists_fit sector header is = omega (arith, is.bootloader_at.within)

-- the header of a physical volume that was found can be read again
header_reads : (in_use : Bool) (sector : List ℕ) (sectors : ℕ) (header : PvHeader) → sectors ≤ 2 ^ 40
    → Reads sector (sectors * 512) header → CanBeFound (marked in_use header)
header_reads in_use sector sectors header most reads =
    let fits = fit_both (sectors * 512) (omega (arith, most)) header.data_areas header.areas reads.areas.inside in
    record {
      id = reads.fields.id_valid;
      version = refl;
      data_fit = fits.0;
      areas_fit = fits.1;
      offsets =
          All-append (λ (area : Extent). area.offset ≢ 0) header.data_areas header.areas reads.fields.data_at.offsets
          reads.fields.areas_at.offsets;
    }

abbrev label_with : Bool → ℕ → ℕ × PvHeader → NewLabel
label_with in_use pv found = record { disk = pv; sector = found.0; header = marked in_use found.1 }

-- ---- the label of one disk

module _ (in_use : Bool) (sizes : List ℕ) (pv sectors : ℕ) (few : pv < 64) (least : 8 ≤ sectors) (most : sectors ≤ 2 ^ 40)
    (has : HasSize sizes pv sectors) where
  abbrev EachIs : Option NewLabel → Type 0
  EachIs o = (label : NewLabel) → o ≡ Some label → IsLabelOf sizes pv label

  none_is : EachIs None
  none_is label is = cc

  one_is : (label : NewLabel) → IsLabelOf sizes pv label → EachIs (Some label)
  one_is label holds other is = subst (IsLabelOf sizes pv) (same label other is) holds
    where
      same : (x y : NewLabel) → Some x ≡ Some y → x ≡ y
      same x y e = cc

  whole_is : (label : ℕ) (header : PvHeader) (areas : List AreaFound) → ContentsCanStand pv sectors (Some (Whole label header areas))
      → IsLabelOf sizes pv (label_with in_use pv (label, header))
  whole_is label header areas stands = record {
    same = refl;
    can = record { disk_below = few; sector_below = stands.0; fits = lists_fit stands.1.0 header stands.1.1.fields };
    lies = record { disk = has.within; within = omega (arith, has.size, least, stands.0) };
    found = header_reads in_use stands.1.0 sectors header most stands.1.1;
  }

  in_found : (found : PvFound) → ContentsCanStand pv sectors (Some found) → EachIs (option_map (label_with in_use pv) (pv_in found))
  in_found (NoLabel refusal) stands = none_is
  in_found (NoHeader label refusal) stands = none_is
  in_found (Whole label header areas) stands = one_is (label_with in_use pv (label, header)) (whole_is label header areas stands)

  in_contents : (contents : Option PvFound) → ContentsCanStand pv sectors contents
      → EachIs (option_map (label_with in_use pv) (option_and_then pv_in contents))
  in_contents None stands = none_is
  in_contents (Some found) stands = in_found found stands

  if_among : (one : Bool) (o : Option NewLabel) → EachIs o → EachIs (cond one o None)
  if_among true o each = each
  if_among false o each = none_is

  pub on_one : (among : set.FinSet nat_cmp) (disk : Disk) → disk.sectors ≡ sectors → ContentsCanStand pv sectors disk.contents
      → EachIs (marked_label in_use among (pv, disk))
  on_one among disk same stands =
      if_among (set.contains among pv) (option_map (label_with in_use pv) (option_and_then pv_in disk.contents))
      (in_contents disk.contents stands)

-- each is on one of these disks
on_among : (in_use : Bool) (among : set.FinSet nat_cmp) (number : ℕ) (one : Bool) (o : Option (ℕ × PvHeader)) (label : NewLabel)
    → set.contains among number ≡ one → cond one (option_map (label_with in_use number) o) None ≡ Some label
    → set.contains among label.disk ≡ true
on_among in_use among number true None label is has = absurd cc
on_among in_use among number true (Some pv) label is has =
    ap (λ (l : NewLabel). set.contains among l.disk) (sym (same_Some (label_with in_use number pv) label has)) ∙ is
on_among in_use among number false o label is has = absurd cc

one_among : (among : set.FinSet nat_cmp) (o : Option NewLabel) (rest : List NewLabel)
    → ((label : NewLabel) → o ≡ Some label → set.contains among label.disk ≡ true)
    → All (λ (label : NewLabel). set.contains among label.disk ≡ true) rest
    → All (λ (label : NewLabel). set.contains among label.disk ≡ true) (cons_option o rest)
one_among among None rest on all = all
one_among among (Some label) rest on all = All-cons (λ (l : NewLabel). set.contains among l.disk ≡ true) label rest (on label refl) all

among_from : (in_use : Bool) (among : set.FinSet nat_cmp) (first : ℕ) (disks : List Disk)
    → All (λ (label : NewLabel). set.contains among label.disk ≡ true)
    (filter_map (marked_label in_use among) (enumerate_from first disks))
among_from in_use among first [] = All-nil (λ (label : NewLabel). set.contains among label.disk ≡ true)
among_from in_use among first (disk ∷ disks) =
    one_among among (marked_label in_use among (first, disk)) (filter_map (marked_label in_use among) (enumerate_from (first + 1) disks))
    (λ label has. on_among in_use among first (set.contains among first) (option_and_then pv_in disk.contents) label refl has)
    (among_from in_use among (first + 1) disks)

pub labels_among : (in_use : Bool) (among : set.FinSet nat_cmp) (disks : List Disk)
    → All (λ (label : NewLabel). set.contains among label.disk ≡ true) (marked_labels in_use among disks)
labels_among in_use among disks = among_from in_use among 0 disks

-- ---- those of all

abbrev IsFrom : List ℕ → ℕ → NewLabel → Type 0
IsFrom sizes first label = (first ≤ label.disk) × IsLabelOf sizes label.disk label

abbrev Differ : NewLabel → NewLabel → Type 0
Differ a b = a.disk ≢ b.disk

module _ (all : List Disk) (few : length all ≤ 64) (in_use : Bool) (among : set.FinSet nat_cmp) where
  abbrev sizes : List ℕ
  sizes = sizes_of all

  abbrev AreThere : ℕ → List Disk → Type 0
  AreThere pv disks = (k : ℕ) (disk : Disk) → slice_get disks k ≡ Some disk → IsDisk (pv + k) disk × (slice_get all (pv + k) ≡ Some disk)

  abbrev Good : ℕ → List NewLabel → Type 0
  Good pv labels = All (IsFrom sizes pv) labels × AllPairs Differ labels

  one_more : (pv : ℕ) (o : Option NewLabel) (labels : List NewLabel) → ((label : NewLabel) → o ≡ Some label → IsLabelOf sizes pv label)
      → Good (pv + 1) labels → Good pv (cons_option o labels)
  one_more pv None labels each good =
      (All-weaker (IsFrom sizes (pv + 1)) (IsFrom sizes pv) (λ label is. (omega (arith, is.0), is.1)) labels good.0, good.1)
  one_more pv (Some label) labels each good =
      let own : IsLabelOf sizes pv label = each label refl in
      let here : IsFrom sizes pv label = (omega (arith, own.same), subst (λ (n : ℕ). IsLabelOf sizes n label) (sym own.same) own) in
      let later : All (IsFrom sizes pv) labels =
      All-weaker (IsFrom sizes (pv + 1)) (IsFrom sizes pv) (λ other is. (omega (arith, is.0), is.1)) labels good.0 in
      let apart : All (Differ label) labels =
      All-weaker (IsFrom sizes (pv + 1)) (Differ label) (λ other is same. omega (arith, is.0, own.same, same)) labels good.0 in
      (All-cons (IsFrom sizes pv) label labels here later, AllPairs-cons Differ label labels apart good.1)

  from_disk : (pv : ℕ) (disks : List Disk) → AreThere pv disks → Good pv (filter_map (marked_label in_use among) (enumerate_from pv disks))
  from_disk pv [] each = (All-nil (IsFrom sizes pv), λ i j d before within. absurd (omega (arith, before, within)))
  from_disk pv (disk ∷ disks) each =
      let here : IsDisk pv disk × (slice_get all pv ≡ Some disk) =
      subst (λ (n : ℕ). IsDisk n disk × (slice_get all n ≡ Some disk)) (omega arith) (each 0 disk refl) in
      let within : pv < length all = slice_get_within all pv disk here.1 in
      one_more pv (marked_label in_use among (pv, disk)) (filter_map (marked_label in_use among) (enumerate_from (pv + 1) disks))
      (on_one in_use sizes pv disk.sectors (omega (arith, within, few)) here.0.least here.0.most (has_size all pv disk here.1) among disk
      refl here.0.contents)
      (from_disk (pv + 1) disks (λ k d is. subst (λ (n : ℕ). IsDisk n d × (slice_get all n ≡ Some d)) (omega arith) (each (suc k) d is)))

module _ (disks : List Disk) (areas : List (Area × Option Locn)) (scanned : AreScanned disks areas) (in_use : Bool)
    (among : set.FinSet nat_cmp) where
  good : Good disks scanned.few in_use among 0 (marked_labels in_use among disks)
  good =
      from_disk disks scanned.few in_use among 0 disks
      (λ k disk there. subst (λ (n : ℕ). IsDisk n disk × (slice_get disks n ≡ Some disk)) (omega arith)
      (scanned.each k disk there, there))

  pub labels_can : All CanLabel (marked_labels in_use among disks)
  labels_can k d within = (good.0 k d within).1.can

  pub labels_lie : All (LabelLies (sizes_of disks)) (marked_labels in_use among disks)
  labels_lie k d within = (good.0 k d within).1.lies

  pub labels_differ : AllPairs (λ (a b : NewLabel). a.disk ≢ b.disk) (marked_labels in_use among disks)
  labels_differ = good.1

  pub labels_found : All (λ (label : NewLabel). CanBeFound label.header) (marked_labels in_use among disks)
  labels_found k d within = (good.0 k d within).1.found

  -- that of one disk
  pub label_is : (pv : ℕ) (disk : Disk) → slice_get disks pv ≡ Some disk → (label : NewLabel)
      → marked_label in_use among (pv, disk) ≡ Some label → IsLabelOf (sizes_of disks) pv label
  label_is pv disk there =
      let is : IsDisk pv disk = scanned.each pv disk there in
      on_one in_use (sizes_of disks) pv disk.sectors (omega (arith, slice_get_within disks pv disk there, scanned.few)) is.least is.most
      (has_size disks pv disk there) among disk refl is.contents

  -- and their batch can be added to others
  pub labels_added : (old new : List Batch) → IsAdded (map label_put (marked_labels in_use among disks)) old new
      → All FitsFields (marked_labels in_use among disks)
      → AreLabelsAdded (marked_labels in_use among disks) (sizes_of disks) old new
  labels_added old new added fields = record {
    writes = added_writes (map label_put (marked_labels in_use among disks)) old new added;
    run = added_run (sizes_of disks) (map label_put (marked_labels in_use among disks)) old new added
        (label_batch (sizes_of disks) (marked_labels in_use among disks) labels_can labels_lie labels_differ);
    fields = fields;
  }
