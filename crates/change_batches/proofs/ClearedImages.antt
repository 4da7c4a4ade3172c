-- What every image keeps while disks are cleared, and what is found once they are.
use Rattle.std.proofs.Common.{◌≡◌, ◌≤◌, ◌<◌, ◌⊎◌, ℕ, ◌+◌, ◌/◌, ◌^◌, false, List, [], ◌∷◌, ◌++◌, length, map, get_or, Option, None, inl, inr}
use Rattle.std.proofs.Common.{⊎_elim, sym, ap, subst, ◌∙◌, arith}
use Rattle.std.specs.Prelude.{All, take as front_of}
use Rattle.std.specs.Ordering.{nat_cmp}
use Rattle.std.specs.FinSet as set
use Rattle.std.proofs.lemmas.Bool.{true≢false}
use Rattle.std.proofs.lemmas.List.Elements.{All-append}
use Rattle.disk_model.specs.Steps.{Image}
use Rattle.mda_header.specs.Header.{IsHeader}
use Rattle.mda_header.specs.HeaderBytes.{header_bytes}
use Rattle.mda_header.specs.declared.header.Locn.{Locn}
use Rattle.mda_ring.specs.Areas.{CanTake}
use Rattle.mda_ring.specs.declared.area.Area.{Area}
use Rattle.mda_ring.proofs.SpanLaws.{covers_tells}
use Rattle.disk_batch.specs.InTurn.{HasFirstBatches, Put, with_batches}
use Rattle.disk_batch.proofs.FrontBatches.{KeepsSector, batches_kept, but_last, first_or_more, front_kept, keeps_sector}
use Rattle.disk_batch.proofs.InTurn.{batches_append}
use Rattle.vg_found.specs.declared.disk.Disk.{Disk}
use Rattle.vg_commit.proofs.Disks.{no_area}
use Rattle.vg_commit.specs.Showing.{sectors_of}
use Rattle.vg_commit.specs.Written.{header_of, header_span}
use Rattle.group_plan.specs.Cleared.{cleared_areas, unused_labels}
use Rattle.group_plan.specs.declared.state.NewLabel.{NewLabel}
use Rattle.change_batches.specs.Batches.{batch_if, clear_batches, clear_put, label_bytes, label_put}
use Rattle.change_batches.specs.Building.{AreScanned}
use Rattle.change_batches.specs.Laws.{AreCleared, ClearsImages, ClearsKeep, IsEmpty, IsKeptOrEmpty, IsUncleared, LabelsKept}
use Rattle.change_batches.specs.Sound.{FitsFields}
use Rattle.change_batches.proofs.ClearBatch.{clear_there, clear_where}
use Rattle.change_batches.proofs.ClearedAreas.{cleared_far, cleared_held}
use Rattle.change_batches.proofs.LabelPuts.{all_if, if_either, labels_keep_apart, labels_keep_far, labels_there, with_if}
use Rattle.change_batches.proofs.LabelsRead.{empty_read, has_label, header_found}
use Rattle.change_batches.proofs.MarkedLabels.{labels_can, labels_differ, labels_found}

module _ (disks : List Disk) (areas : List (Area × Option Locn)) (scanned : AreScanned disks areas) (cleared : set.FinSet nat_cmp) where
  abbrev labels : List NewLabel
  labels = unused_labels cleared disks

  abbrev on : List (Area × Option Locn)
  on = cleared_areas cleared areas

  abbrev label_batches : List (List Put)
  label_batches = batch_if (map label_put labels)

  abbrev header_batches : List (List Put)
  header_batches = batch_if (map clear_put on)

  -- ---- what the batches keep

  labels_keep : (pv sector : ℕ) → 4 ≤ sector → All (KeepsSector pv sector) label_batches
  labels_keep pv sector far =
      all_if (KeepsSector pv sector) (map label_put labels)
      (labels_keep_far labels (labels_can disks areas scanned false cleared) pv sector far)

  header_far : (k : ℕ) (d : Area × Option Locn) → k < length on → 4 ≤ (get_or on k d).0.start / 512
  header_far k d within =
      let begins : 2048 ≤ (get_or on k d).0.start = cleared_far disks areas scanned cleared k d within in omega (arith, begins)

  -- the empty headers leave the first four sectors
  pub headers_keep : (pv sector : ℕ) → sector < 4 → All (KeepsSector pv sector) header_batches
  headers_keep pv sector low =
      all_if (KeepsSector pv sector) (map clear_put on)
      (keeps_sector (map clear_put on) pv sector
      (λ value by.
      let w = clear_where on no_area pv sector value by in
      let t = covers_tells (header_span (get_or on w.0 no_area).0) pv sector w.2 in
      let far = header_far w.0 no_area w.1 in
      omega (arith, t.1, far, low)))

  -- both leave a sector that is none of those which they write
  pub all_keep : (pv sector : ℕ) → IsUncleared cleared disks areas pv sector
      → All (KeepsSector pv sector) (clear_batches cleared disks areas)
  all_keep pv sector other =
      All-append (KeepsSector pv sector) label_batches header_batches
      (all_if (KeepsSector pv sector) (map label_put labels) (labels_keep_apart labels pv sector other.labels))
      (all_if (KeepsSector pv sector) (map clear_put on)
      (keeps_sector (map clear_put on) pv sector
      (λ value by. let w = clear_where on no_area pv sector value by in true≢false (sym w.2 ∙ other.headers w.0 no_area w.1))))

  module _ (base : Image) where
    abbrev first : Image
    first = with_batches label_batches base

    label_first : (k : ℕ) (d : NewLabel) → k < length labels
        → first (get_or labels k d).disk (get_or labels k d).sector ≡ label_bytes (get_or labels k d)
    label_first k d within =
        let label : NewLabel = get_or labels k d in
        ap (λ (i : Image). i label.disk label.sector) (with_if (map label_put labels) base)
        ∙ labels_there labels base (labels_differ disks areas scanned false cleared) k d within

    header_first : (k : ℕ) (d : Area × Option Locn) → k < length on
        → first (get_or on k d).0.pv ((get_or on k d).0.start / 512) ≡ base (get_or on k d).0.pv ((get_or on k d).0.start / 512)
    header_first k d within =
        let a : Area × Option Locn = get_or on k d in
        batches_kept label_batches base a.0.pv (a.0.start / 512) (labels_keep a.0.pv (a.0.start / 512) (header_far k d within))

    -- ---- on the way

    labels_kept : (image : Image) → HasFirstBatches (clear_batches cleared disks areas) base image → LabelsKept labels base image
    labels_kept image h k d within =
        let label : NewLabel = get_or labels k d in
        ⊎_elim
        (λ in_labels.
        ⊎_elim
        (λ old. inl old)
        (λ new. inr (new ∙ labels_there labels base (labels_differ disks areas scanned false cleared) k d within))
        (if_either (map label_put labels) base image label.disk label.sector in_labels))
        (λ in_headers.
        inr (front_kept header_batches first image label.disk label.sector
        (headers_keep label.disk label.sector (labels_can disks areas scanned false cleared k d within).sector_below) in_headers
        ∙ label_first k d within))
        (first_or_more label_batches header_batches base image h)

    header_either : (image : Image) → HasFirstBatches (clear_batches cleared disks areas) base image → (k : ℕ) (d : Area × Option Locn)
        → k < length on
        → (image (get_or on k d).0.pv ((get_or on k d).0.start / 512) ≡ base (get_or on k d).0.pv ((get_or on k d).0.start / 512))
        ⊎ (image (get_or on k d).0.pv ((get_or on k d).0.start / 512) ≡ header_bytes (header_of (get_or on k d).0 None None))
    header_either image h k d within =
        let a : Area × Option Locn = get_or on k d in
        let at : ℕ = a.0.start / 512 in
        ⊎_elim
        (λ in_labels. inl (front_kept label_batches base image a.0.pv at (labels_keep a.0.pv at (header_far k d within)) in_labels))
        (λ in_headers.
        ⊎_elim
        (λ old. inl (old ∙ header_first k d within))
        (λ new. inr (new ∙ clear_there on first (cleared_held disks areas scanned cleared) k d within))
        (if_either (map clear_put on) first image a.0.pv at in_headers))
        (first_or_more label_batches header_batches base image h)

    headers_kept : (image : Image) → HasFirstBatches (clear_batches cleared disks areas) base image → All (IsKeptOrEmpty base image) on
    headers_kept image h k d within =
        let a : Area × Option Locn = get_or on k d in
        subst (λ (n : ℕ). (image a.0.pv n ≡ base a.0.pv n) ⊎ (image a.0.pv n ≡ header_bytes (header_of a.0 None None)))
        (let e : a.0.start / 512 ≡ a.0.start / 512 + 0 = omega arith in e) (header_either image h k d within)

    pub is_kept : (image : Image) → HasFirstBatches (clear_batches cleared disks areas) base image
        → ClearsKeep cleared disks areas base image
    is_kept image h = record {
      labels = labels_kept image h;
      headers = headers_kept image h;
      others = λ pv sector other. front_kept (clear_batches cleared disks areas) base image pv sector (all_keep pv sector other) h;
    }

    -- until the headers are begun
    uncleared_by : (of : List (Area × Option Locn)) → ((k : ℕ) (d : Area × Option Locn) → k < length of → 4 ≤ (get_or of k d).0.start / 512)
        → (image : Image) (n : ℕ) → n < length (label_batches ++ batch_if (map clear_put of))
        → HasFirstBatches (front_of n (label_batches ++ batch_if (map clear_put of))) base image
        → All (λ (area : Area × Option Locn). sectors_of area.0 image 0 ≡ sectors_of area.0 base 0) of
    uncleared_by [] far image n less h k d within = absurd (omega (arith, within))
    uncleared_by (area ∷ more) far image n less h k d within =
        let a : Area × Option Locn = get_or (area ∷ more) k d in
        let begins = far k d within in
        front_kept label_batches base image a.0.pv (a.0.start / 512 + 0) (labels_keep a.0.pv (a.0.start / 512 + 0) (omega (arith, begins)))
        (but_last label_batches (map clear_put (area ∷ more)) n base image less h)

    -- ---- once all is written

    abbrev last : Image
    last = with_batches (clear_batches cleared disks areas) base

    last_is : (pv sector : ℕ) → last pv sector ≡ with_batches header_batches first pv sector
    last_is pv sector = ap (λ (i : Image). i pv sector) (batches_append label_batches header_batches base)

    label_last : (k : ℕ) (d : NewLabel) → k < length labels
        → last (get_or labels k d).disk (get_or labels k d).sector ≡ label_bytes (get_or labels k d)
    label_last k d within =
        let label : NewLabel = get_or labels k d in
        last_is label.disk label.sector ∙ batches_kept header_batches first label.disk label.sector
        (headers_keep label.disk label.sector (labels_can disks areas scanned false cleared k d within).sector_below)
        ∙ label_first k d within

    header_last : (k : ℕ) (d : Area × Option Locn) → k < length on
        → last (get_or on k d).0.pv ((get_or on k d).0.start / 512) ≡ header_bytes (header_of (get_or on k d).0 None None)
    header_last k d within =
        let a : Area × Option Locn = get_or on k d in
        last_is a.0.pv (a.0.start / 512) ∙ ap (λ (i : Image). i a.0.pv (a.0.start / 512)) (with_if (map clear_put on) first)
        ∙ clear_there on first (cleared_held disks areas scanned cleared) k d within

    header_empty : (k : ℕ) (d : Area × Option Locn) → k < length on → IsEmpty last (get_or on k d)
    header_empty k d within =
        let a : Area × Option Locn = get_or on k d in
        let takes : CanTake a = (cleared_held disks areas scanned cleared).take k d within in
        let ends : a.0.start + a.0.size ≤ 2 ^ 49 = takes.0.ends in
        let at : last a.0.pv (a.0.start / 512 + 0) ≡ header_bytes (header_of a.0 None None) =
        ap (λ (n : ℕ). last a.0.pv n) (let e : a.0.start / 512 + 0 ≡ a.0.start / 512 = omega arith in e) ∙ header_last k d within in
        subst (λ (sector : List ℕ). IsHeader sector (header_of a.0 None None)) (sym at)
        (empty_read (record { offset = a.0.start; size = a.0.size }) (omega (arith, ends)) (omega (arith, ends)))

    pub are_cleared : All FitsFields labels → AreCleared cleared disks areas last
    are_cleared fields = record {
      labels =
          λ k d within. has_label (get_or labels k d) last (labels_can disks areas scanned false cleared k d within) (fields k d within)
          (labels_found disks areas scanned false cleared k d within) (label_last k d within);
      headers = header_empty;
    }

  -- all of it
  pub clears_images : All FitsFields labels → ClearsImages cleared disks areas
  clears_images fields = record {
    kept = λ base image h. is_kept base image h;
    uncleared = λ base image n less h. uncleared_by base on header_far image n less h;
    done = λ base. are_cleared base fields;
    read =
        λ k d within. header_found (get_or labels k d) (labels_can disks areas scanned false cleared k d within) (fields k d within)
        (labels_found disks areas scanned false cleared k d within);
  }
