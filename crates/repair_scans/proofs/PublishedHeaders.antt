-- The header of a stale area once a repair is done: it publishes the text.
use Rattle.std.proofs.Common.{◌≡◌, ◌≤◌, ◌<◌, ℕ, zero, suc, ◌/◌, Bool, true, false, List, [], ◌∷◌, ◌++◌, length, map, get_or, Option, inl}
use Rattle.std.proofs.Common.{inr, ⊎_elim, sym, ap, ◌∙◌, arith}
use Rattle.std.proofs.lemmas.Bool.{or_left, or_right, true≢false}
use Rattle.std.proofs.lemmas.List.Elements.{filter_passes}
use Rattle.std.specs.FinSet as set
use Rattle.std.specs.FinSet.{contains}
use Rattle.std.specs.Ordering.{nat_cmp}
use Rattle.sector_base.specs.Spans.{covers}
use Rattle.disk_model.specs.Steps.{Image}
use Rattle.disk_model.specs.Submitting.{writes_at}
use Rattle.mda_header.specs.HeaderBytes.{header_bytes}
use Rattle.mda_header.specs.declared.header.Locn.{Locn}
use Rattle.mda_ring.specs.declared.area.Area.{Area}
use Rattle.disk_batch.specs.InTurn.{Put, with_batches, with_writes}
use Rattle.disk_batch.specs.Writes.{IsWrittenBy, write_work}
use Rattle.disk_batch.proofs.FrontBatches.{KeepsSector, batches_kept}
use Rattle.disk_batch.proofs.InTurn.{batches_append}
use Rattle.disk_batch.proofs.WritesOnImages.{written_or_kept}
use Rattle.vg_found.specs.declared.found.Found.{Found}
use Rattle.vg_commit.proofs.Disks.{no_area}
use Rattle.vg_commit.specs.Written.{area_writes, header_after, header_span, headers_of, publish_of, texts_of}
use Rattle.vg_commit.proofs.AreasCommit.{header_covers, one_area}
use Rattle.group_plan.specs.Cleared.{marked_labels}
use Rattle.group_plan.specs.Judging.{lies_on}
use Rattle.group_plan.specs.declared.state.NewLabel.{NewLabel}
use Rattle.change_batches.specs.Batches.{batch_if, clear_put, label_put}
use Rattle.change_batches.proofs.LabelPuts.{all_if, labels_keep_far, one_covers, one_tells, one_value}
use Rattle.change_batches.specs.Building.{AreHeld}
use Rattle.vg_repair.specs.Batches.{old_labels, repair_batches, stale_batches, stray_areas, stray_labels}
use Rattle.vg_repair.specs.Stale.{stale_areas, text_of}
use Rattle.vg_repair.proofs.HeldAreas.{stale_held}
use Rattle.vg_repair.proofs.StaleOthers.{stale_elsewhere}
use Rattle.vg_repair.proofs.NewLabels.{some_can}
use Rattle.image_scans.proofs.Front.{any_if, batches_or}
use Rattle.image_scans.proofs.ClearWrites.{IsClearWrite, clear_write}
use Rattle.repair_scans.specs.Laws.{CanRepair}
use Rattle.repair_scans.proofs.RepairOnTheWay.{stale_far}
use Rattle.repair_scans.proofs.StraysApart.{strays_apart}

-- ---- the third batch of a commit

module _ (text : List ℕ) where
  publish_where : (areas : List (Area × Option Locn)) (d : Area × Option Locn) (pv sector : ℕ) (value : List ℕ)
      → IsWrittenBy (publish_of (map (area_writes text) areas)) pv sector value
      → (k : ℕ) × (k < length areas) × (covers (header_span (get_or areas k d).0) pv sector ≡ true)
      × (value ≡ header_bytes (header_after text (get_or areas k d)))
  publish_where [] d pv sector value by = absurd by
  publish_where (a ∷ areas) d pv sector value (inl own) =
      let t = one_tells a.0.pv (a.0.start / 512) pv sector own.0 in
      (0, omega arith, own.0, own.1 ∙ one_value a.0.pv (a.0.start / 512) sector (header_bytes (header_after text a)) t.1)
  publish_where (a ∷ areas) d pv sector value (inr more) =
      let w = publish_where areas d pv sector value more in (suc w.0, omega (arith, w.1), w.2, w.3)

  publish_at : (areas : List (Area × Option Locn)) (d : Area × Option Locn) (k : ℕ) → k < length areas
      → writes_at (map write_work (publish_of (map (area_writes text) areas))) (get_or areas k d).0.pv ((get_or areas k d).0.start / 512)
      ≡ true
  publish_at [] d k within = absurd (omega (arith, within))
  publish_at (a ∷ areas) d zero within =
      or_left (covers (header_span a.0) a.0.pv (a.0.start / 512))
      (writes_at (map write_work (publish_of (map (area_writes text) areas))) a.0.pv (a.0.start / 512))
      (one_covers a.0.pv (a.0.start / 512))
  publish_at (a ∷ areas) d (suc k) within =
      or_right (covers (header_span a.0) (get_or areas k d).0.pv ((get_or areas k d).0.start / 512))
      (writes_at (map write_work (publish_of (map (area_writes text) areas))) (get_or areas k d).0.pv
      ((get_or areas k d).0.start / 512))
      (publish_at areas d k (omega (arith, within)))

  -- each header is as it publishes the text
  published : (areas : List (Area × Option Locn)) (base : Image) → AreHeld areas → (k : ℕ) (d : Area × Option Locn) → k < length areas
      → with_writes (publish_of (map (area_writes text) areas)) base (get_or areas k d).0.pv ((get_or areas k d).0.start / 512)
      ≡ header_bytes (header_after text (get_or areas k d))
  published areas base held k d within =
      let a : Area × Option Locn = get_or areas k d in
      let puts = publish_of (map (area_writes text) areas) in
      ⊎_elim
      (λ kept. absurd (true≢false (sym (publish_at areas d k within) ∙ kept.1)))
      (λ by.
      let w = publish_where areas d a.0.pv (a.0.start / 512) (with_writes puts base a.0.pv (a.0.start / 512)) by in
      let b : Area × Option Locn = get_or areas w.0 d in
      let same : b ≡ a =
      one_area areas held.take held.apart d w.0 k a.0.pv (a.0.start / 512) w.1 within
      (header_covers b.0 a.0.pv (a.0.start / 512) (held.take w.0 d w.1).0 w.2)
      (header_covers a.0 a.0.pv (a.0.start / 512) (held.take k d within).0 (one_covers a.0.pv (a.0.start / 512)))
      in
      w.3 ∙ ap (λ (c : Area × Option Locn). header_bytes (header_after text c)) same)
      (written_or_kept puts base a.0.pv (a.0.start / 512))

  texts_published : (areas : List (Area × Option Locn)) (base : Image) → AreHeld areas → (k : ℕ) (d : Area × Option Locn) → k < length areas
      → with_batches (stale_batches text areas) base (get_or areas k d).0.pv ((get_or areas k d).0.start / 512)
      ≡ header_bytes (header_after text (get_or areas k d))
  texts_published [] base held k d within = absurd (omega (arith, within))
  texts_published (a ∷ areas) base held k d within =
      published (a ∷ areas) (with_writes (headers_of (map (area_writes text) (a ∷ areas)))
      (with_writes (texts_of (map (area_writes text) (a ∷ areas))) base)) held k d within

-- ---- the repair

module _ (base : Image) (sizes : List ℕ) (found : Found) (p : CanRepair base sizes found) where
  abbrev stale : List (Area × Option Locn)
  stale = stale_areas found

  abbrev texts : Image
  texts = with_batches (stale_batches (text_of found) stale) base

  abbrev olds : List (List Put)
  olds = batch_if (map label_put (old_labels found))

  abbrev strays : List (List Put)
  strays = batch_if (map label_put (stray_labels found))

  abbrev clears : List (List Put)
  clears = batch_if (map clear_put (stray_areas found))

  -- labels are written to the first four sectors
  labels_kept : (in_use : Bool) (among : set.FinSet nat_cmp) (image : Image) (pv sector : ℕ) → 4 ≤ sector
      → with_batches (batch_if (map label_put (marked_labels in_use among found.disks))) image pv sector ≡ image pv sector
  labels_kept in_use among image pv sector far =
      let labels : List NewLabel = marked_labels in_use among found.disks in
      batches_kept (batch_if (map label_put labels)) image pv sector
      (all_if (KeepsSector pv sector) (map label_put labels)
      (labels_keep_far labels (some_can found p.shape in_use among) pv sector far))

  -- the batches behind those of the text write another sector
  texts_kept : (k : ℕ) (d : Area × Option Locn) → k < length stale
      → with_batches (repair_batches found) base (get_or stale k d).0.pv ((get_or stale k d).0.start / 512)
      ≡ texts (get_or stale k d).0.pv ((get_or stale k d).0.start / 512)
  texts_kept k d within =
      let pv : ℕ = (get_or stale k d).0.pv in
      let sector : ℕ = (get_or stale k d).0.start / 512 in
      let begins : 2048 ≤ (get_or stale k d).0.start = stale_far base sizes found p k d within in
      let far : 4 ≤ sector = omega (arith, begins) in
      let second : Image = with_batches (stale_batches (text_of found) stale ++ olds) base in
      let third : Image = with_batches strays second in
      let cleared : with_batches clears third pv sector ≡ third pv sector =
      ⊎_elim
      (λ same. same)
      (λ by.
      let value : List ℕ = with_batches clears third pv sector in
      let w : IsClearWrite (stray_areas found) pv sector value =
      clear_write (stray_areas found) pv sector value (any_if (map clear_put (stray_areas found)) pv sector value by) in
      absurd (true≢false (sym (filter_passes (lies_on found.strays) found.areas w.number no_area w.among)
      ∙ ap (contains found.strays) w.disk ∙ stale_elsewhere found (strays_apart base sizes found p.scan) k d within)))
      (batches_or clears third pv sector)
      in
      ap (λ (i : Image). i pv sector) (batches_append (stale_batches (text_of found) stale ++ olds) (strays ++ clears) base
      ∙ batches_append strays clears second) ∙ cleared ∙ labels_kept false found.strays second pv sector far
      ∙ ap (λ (i : Image). i pv sector) (batches_append (stale_batches (text_of found) stale) olds base)
      ∙ labels_kept true found.old texts pv sector far

  -- the header of each stale area is as it publishes the text
  pub header_published : (k : ℕ) (d : Area × Option Locn) → k < length stale
      → with_batches (repair_batches found) base (get_or stale k d).0.pv ((get_or stale k d).0.start / 512)
      ≡ header_bytes (header_after (text_of found) (get_or stale k d))
  header_published k d within = texts_kept k d within ∙ texts_published (text_of found) stale base (stale_held found p.shape) k d within
