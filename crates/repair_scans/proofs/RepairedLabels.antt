-- The label of a disk once a repair is done: a stray's header is in use no more, an old one is brought up, and another is as it was.
use Rattle.std.proofs.Common.{◌≡◌, ◌<◌, ◌⊎◌, ℕ, ◌*◌, Bool, true, false, cond, List, Option, Some, None, inl, inr, ⊎_elim, refl, sym, ap}
use Rattle.std.proofs.Common.{subst, ◌∙◌}
use Rattle.std.specs.Prelude.{All, option_map, slice_get}
use Rattle.std.specs.FinSet as set
use Rattle.std.specs.FinSet.{contains}
use Rattle.std.specs.Ordering.{nat_cmp}
use Rattle.std.proofs.lemmas.List.Elements.{All-append}
use Rattle.std.specs.Option.{option_and_then}
use Rattle.std.proofs.lemmas.Bool.{true≢false}
use Rattle.disk_model.specs.Steps.{Image}
use Rattle.pv_label.specs.Label.{IsFirstLabel, IsLabel}
use Rattle.pv_label.specs.LabelSectors.{first_four}
use Rattle.pv_header.specs.PvRefusal.{Reads}
use Rattle.pv_header.specs.declared.header.PvHeader.{PvHeader}
use Rattle.meta_model.specs.declared.group.Group.{Group}
use Rattle.scan_rules.specs.Decision.{lists}
use Rattle.list_laws.proofs.Members.{kept_has}
use Rattle.disk_batch.specs.InTurn.{with_batches}
use Rattle.disk_contents.specs.declared.contents.AreaFound.{AreaFound}
use Rattle.disk_contents.specs.declared.contents.PvFound.{PvFound}
use Rattle.disk_contents.specs.declared.contents.PvFound.TheVariants.{Whole}
use Rattle.disk_contents.specs.Contents.{IsFound}
use Rattle.vg_found.specs.declared.disk.Disk.{Disk}
use Rattle.vg_found.specs.declared.found.Found.{Found}
use Rattle.vg_found.specs.Disks.{header_on}
use Rattle.group_plan.specs.Added.{pv_in}
use Rattle.group_plan.specs.declared.state.NewLabel.{NewLabel}
use Rattle.group_plan.specs.Cleared.{marked_label, marked_labels}
use Rattle.group_plan.specs.Marks.{marked}
use Rattle.change_batches.specs.Laws.{HasLabel}
use Rattle.change_batches.proofs.LabelPuts.{label_where, no_label}
use Rattle.change_batches.proofs.MarkedLabels.{labels_among}
use Rattle.vg_repair.specs.Batches.{new_labels, old_labels, repair_batches, stray_labels}
use Rattle.vg_repair.specs.Repaired.{repaired_header}
use Rattle.vg_repair.proofs.Numbered.{all_in}
use Rattle.vg_repair.proofs.RepairedHeaders.{by_header}
use Rattle.vg_repair.proofs.Sublists.{all_back, all_front}
use Rattle.image_scans.proofs.CommitLine.{all_written}
use Rattle.image_scans.proofs.Labels.{header_again, label_again, of_four}
use Rattle.repair_scans.specs.Laws.{CanRepair}
use Rattle.repair_scans.proofs.RepairOnTheWay.{near, own_stands, shown}

-- a label that is written is on an old disk or a stray
abbrev IsOnOne : Found → NewLabel → Type 0
IsOnOne found label = (contains found.old label.disk ≡ true) ⊎ (contains found.strays label.disk ≡ true)

labels_on_one : (found : Found) → All (IsOnOne found) (new_labels found)
labels_on_one found =
    All-append (IsOnOne found) (old_labels found) (stray_labels found)
    (λ k d within. inl (labels_among true found.old found.disks k d within))
    (λ k d within. inr (labels_among false found.strays found.disks k d within))

module _ (base : Image) (sizes : List ℕ) (found : Found) (p : CanRepair base sizes found) (group : Group)
    (unlisted : (pv : ℕ) (disk : Disk) (header : PvHeader) → slice_get found.disks pv ≡ Some disk → header_on disk.contents ≡ Some header
    → contains found.strays pv ≡ true → lists group header.id ≡ false) (pv : ℕ) (disk : Disk)
    (there : slice_get found.disks pv ≡ Some disk)
    (label : ℕ) (header : PvHeader) (areas : List AreaFound) (is : disk.contents ≡ Some (Whole label header areas))
    (stood : IsFound (base pv) disk.sectors (Whole label header areas)) where
  abbrev last : Image
  last = with_batches (repair_batches found) base

  before_kept : (k : ℕ) → k < label → last pv k ≡ base pv k
  before_kept =
      (own_stands base sizes found p group unlisted last (all_written (repair_batches found) base) pv disk there label header areas is
      stood.0.among).before

  sector_kept : contains found.strays pv ≡ false → contains found.old pv ≡ false → last pv label ≡ base pv label
  sector_kept no_stray no_old =
      ⊎_elim
      (λ same. same)
      (λ by.
      let w = label_where (new_labels found) no_label pv label (last pv label) by in
      ⊎_elim
      (λ old. absurd (true≢false (sym old ∙ ap (contains found.old) w.2 ∙ no_old)))
      (λ stray. absurd (true≢false (sym stray ∙ ap (contains found.strays) w.2 ∙ no_stray)))
      (labels_on_one found w.0 no_label w.1))
      (near base sizes found p group unlisted last (all_written (repair_batches found) base) pv label stood.0.among)

  abbrev IsRead : PvHeader → Type 0
  IsRead h = IsFirstLabel (first_four (last pv)) label × Reads (last pv label) (disk.sectors * 512) h

  -- what is written is read
  marked_read : (in_use : Bool) (among : set.FinSet nat_cmp) → All (HasLabel last) (marked_labels in_use among found.disks)
      → contains among pv ≡ true → IsRead (marked in_use header)
  marked_read in_use among all on =
      let new : NewLabel = record { disk = pv; sector = label; header = marked in_use header } in
      let own : marked_label in_use among (pv, disk) ≡ Some new =
      ap (λ (b : Bool). cond b
      (option_map (λ (found : ℕ × PvHeader). record { disk = pv; sector = found.0; header = marked in_use found.1 })
      (option_and_then pv_in disk.contents)) None) on
      ∙ ap (λ (c : Option PvFound). option_map (λ (found : ℕ × PvHeader). record {
        disk = pv;
        sector = found.0;
        header = marked in_use
            found.1;
      }) (option_and_then pv_in c)) is
      in
      let has : HasLabel last new =
      all_in (HasLabel last) (marked_labels in_use among found.disks) new
      (kept_has (marked_label in_use among) found.disks new pv disk there own) all
      in (
        label_again (base pv) (last pv) label before_kept has.label stood.0,
        header_again (last pv label) (disk.sectors * 512) header (marked in_use header) (record { id = refl; held = refl; areas = refl })
            has.header stood.1.areas,
      )

  -- what isn't is as it was
  other_read : contains found.strays pv ≡ false → contains found.old pv ≡ false → IsRead header
  other_read no_stray no_old =
      let same : base pv label ≡ last pv label = sym (sector_kept no_stray no_old) in
      let own : IsLabel (base pv label) label =
      subst (λ (s : List ℕ). IsLabel s label) (of_four (base pv) label stood.0.among) stood.0.label in (
        label_again (base pv) (last pv) label before_kept (subst (λ (s : List ℕ). IsLabel s label) same own) stood.0,
        subst (λ (s : List ℕ). Reads s (disk.sectors * 512) header) same stood.1,
      )

  -- its first label and the header there
  pub label_repaired : IsRead (repaired_header found.strays found.old pv header)
  label_repaired =
      let all = (p.keeps.right base (shown base sizes found p)).labels in
      by_header found.strays found.old pv header IsRead
      (λ stray. marked_read false found.strays (all_back (HasLabel last) (old_labels found) (stray_labels found) all) stray)
      (λ stray was. marked_read true found.old (all_front (HasLabel last) (old_labels found) (stray_labels found) all) was)
      other_read
