-- Where nothing is stale, no disk is old and there is no stray a repair changes nothing.
use Rattle.std.proofs.Common.{◌≡◌, ℕ, ◌+◌, Bool, true, false, cond, List, [], ◌∷◌, ◌++◌, map, Option, Some, None, refl, sym, ap, ◌∙◌}
use Rattle.std.specs.Prelude.{filter, option_map}
use Rattle.std.specs.List.{cons_option, enumerate_from, filter_map, flat_map}
use Rattle.std.specs.Option.{option_and_then, option_map_or}
use Rattle.std.specs.Ordering.{nat_cmp}
use Rattle.std.specs.FinSet as set
use Rattle.std.proofs.lemmas.Bool.{true≢false}
use Rattle.pv_header.specs.declared.header.PvHeader.{PvHeader}
use Rattle.mda_header.specs.declared.header.Locn.{Locn}
use Rattle.mda_ring.specs.declared.area.Area.{Area}
use Rattle.disk_contents.specs.declared.contents.AreaFound.{AreaFound}
use Rattle.disk_contents.specs.declared.contents.PvFound.{PvFound}
use Rattle.disk_contents.specs.declared.contents.PvFound.TheVariants.{NoLabel, NoHeader, Whole}
use Rattle.vg_found.specs.Disks.{areas_on, held_area, held_areas}
use Rattle.vg_found.specs.Shape.{HasShape}
use Rattle.vg_found.specs.declared.disk.Disk.{Disk}
use Rattle.vg_found.specs.declared.found.Found.{Found}
use Rattle.group_plan.specs.Added.{pv_in}
use Rattle.group_plan.specs.Judging.{lies_on}
use Rattle.group_plan.specs.declared.state.NewLabel.{NewLabel}
use Rattle.group_plan.specs.Cleared.{marked_label, unused_labels, used_labels}
use Rattle.group_plan.specs.Marks.{marked}
use Rattle.change_batches.specs.Batches.{batch_if, clear_batches, clear_put, label_put}
use Rattle.vg_repair.specs.Batches.{old_labels, repair_batches, stale_batches, stray_areas, stray_labels}
use Rattle.vg_repair.specs.Laws.{LeavesAll}
use Rattle.vg_repair.specs.Repaired.{repaired_area, repaired_areas, repaired_contents, repaired_disk, repaired_disks, repaired_header}
use Rattle.vg_repair.specs.Repaired.{repaired_held, repaired_of, with_entry}
use Rattle.vg_repair.specs.Stale.{stale_areas, stale_by, stale_in, stale_on, text_of}
use Rattle.vg_repair.proofs.RepairedHeaders.{by_header}

no_stray : (pv : ℕ) → set.contains (set.empty {R = nat_cmp}) pv ≡ false
no_stray pv = set.contains-empty nat_cmp pv

abbrev none : set.FinSet nat_cmp
none = set.empty

both : {X : Type 0} {a b : X} {xs ys : List X} → a ≡ b → xs ≡ ys → (a ∷ xs) ≡ (b ∷ ys)
both e r = cc

-- ---- nothing is written

no_stale_on : (pv first : ℕ) (founds : List AreaFound) → filter_map (stale_in [] pv) (enumerate_from first founds) ≡ []
no_stale_on pv first [] = refl
no_stale_on pv first (found ∷ founds) = no_stale_on pv (first + 1) founds

no_stale : (first : ℕ) (disks : List Disk) → flat_map (stale_on []) (enumerate_from first disks) ≡ []
no_stale first [] = refl
no_stale first (disk ∷ disks) =
    ap (λ (l : List (Area × Option Locn)). l ++ flat_map (stale_on []) (enumerate_from (first + 1) disks))
    (no_stale_on first 0 (areas_on disk.contents)) ∙ no_stale (first + 1) disks

no_labels : (in_use : Bool) (first : ℕ) (disks : List Disk) → filter_map (marked_label in_use none) (enumerate_from first disks) ≡ []
no_labels in_use first [] = refl
no_labels in_use first (disk ∷ disks) =
    ap (λ (b : Bool). cons_option
    (cond b (option_map (λ (pv : ℕ × PvHeader). record { disk = first; sector = pv.0; header = marked in_use pv.1 })
    (option_and_then pv_in disk.contents)) None) (filter_map (marked_label in_use none) (enumerate_from (first + 1) disks)))
    (no_stray first) ∙ no_labels in_use (first + 1) disks

no_areas : (areas : List (Area × Option Locn)) → filter (lies_on none) areas ≡ []
no_areas [] = refl
no_areas (area ∷ areas) =
    ap (λ (b : Bool). cond b (area ∷ filter (lies_on none) areas) (filter (lies_on none) areas)) (no_stray area.0.pv) ∙ no_areas areas

-- ---- all stays as it is

module _ (text : List ℕ) where
  area_by : (pv number : ℕ) (found : AreaFound) (o : Option (Area × Option Locn))
      → option_map_or (repaired_held [] none text pv (number, found)) o found ≡ found
  area_by pv number found None = refl
  area_by pv number found (Some area) = ap (λ (b : Bool). cond b (with_entry found None) found) (no_stray pv)

  areas_same : (pv first : ℕ) (founds : List AreaFound) → map (repaired_area [] none text pv) (enumerate_from first founds) ≡ founds
  areas_same pv first [] = refl
  areas_same pv first (found ∷ founds) = both (area_by pv first found (held_area pv found)) (areas_same pv (first + 1) founds)

  header_same : (pv : ℕ) (header : PvHeader) → repaired_header none none pv header ≡ header
  header_same pv header =
      by_header none none pv header (λ h. h ≡ header) (λ is. absurd (true≢false (sym is ∙ no_stray pv)))
      (λ stray is. absurd (true≢false (sym is ∙ no_stray pv))) (λ stray was. refl)

  contents_same : (pv : ℕ) (contents : Option PvFound) → option_map (repaired_contents [] none none text pv) contents ≡ contents
  contents_same pv None = refl
  contents_same pv (Some (NoLabel refusal)) = refl
  contents_same pv (Some (NoHeader label refusal)) = refl
  contents_same pv (Some (Whole label header areas)) =
      ap (λ (h : PvHeader). Some (Whole label h (repaired_areas [] none text pv areas))) (header_same pv header)
      ∙ ap (λ (l : List AreaFound). Some (Whole label header l)) (areas_same pv 0 areas)

  disks_same : (first : ℕ) (disks : List Disk) → map (repaired_disk [] none none text) (enumerate_from first disks) ≡ disks
  disks_same first [] = refl
  disks_same first (disk ∷ disks) =
      both (ap (λ (c : Option PvFound). record { sectors = disk.sectors; contents = c }) (contents_same first disk.contents))
      (disks_same (first + 1) disks)

-- ---- both

module _ (found : Found) (shape : HasShape found) (stale : found.stale ≡ []) (strays : found.strays ≡ none) (old : found.old ≡ none) where
  stale_none : stale_areas found ≡ []
  stale_none = ap (λ (s : List (ℕ × ℕ)). stale_by s found.disks) stale ∙ no_stale 0 found.disks

  labels_none : stray_labels found ≡ []
  labels_none = ap (λ (s : set.FinSet nat_cmp). unused_labels s found.disks) strays ∙ no_labels false 0 found.disks

  olds_none : old_labels found ≡ []
  olds_none = ap (λ (s : set.FinSet nat_cmp). used_labels s found.disks) old ∙ no_labels true 0 found.disks

  areas_none : stray_areas found ≡ []
  areas_none = ap (λ (s : set.FinSet nat_cmp). filter (lies_on s) found.areas) strays ∙ no_areas found.areas

  nothing : repair_batches found ≡ []
  nothing =
      ap (λ (l : List (Area × Option Locn)). stale_batches (text_of found) l ++ batch_if (map label_put (old_labels found))
      ++ clear_batches found.strays found.disks found.areas) stale_none
      ∙ ap (λ (l : List NewLabel). batch_if (map label_put l) ++ clear_batches found.strays found.disks found.areas) olds_none
      ∙ ap (λ (l : List NewLabel). batch_if (map label_put l) ++ batch_if (map clear_put (stray_areas found))) labels_none
      ∙ ap (λ (l : List (Area × Option Locn)). batch_if (map clear_put l)) areas_none

  disks_are : repaired_disks found.stale found.strays found.old (text_of found) found.disks ≡ found.disks
  disks_are =
      ap (λ (s : List (ℕ × ℕ)). repaired_disks s found.strays found.old (text_of found) found.disks) stale
      ∙ ap (λ (s : set.FinSet nat_cmp). repaired_disks [] s found.old (text_of found) found.disks) strays
      ∙ ap (λ (s : set.FinSet nat_cmp). repaired_disks [] none s (text_of found) found.disks) old
      ∙ disks_same (text_of found) 0 found.disks

  same : repaired_of found ≡ found
  same = λ i. record found {
    disks = disks_are i;
    areas = (ap (held_areas 0) disks_are ∙ sym shape.areas) i;
    stale = sym stale i;
    strays = sym strays i;
    old = sym old i;
  }

pub leaves_all : LeavesAll
leaves_all found shape stale strays old = (nothing found shape stale strays old, same found shape stale strays old)
