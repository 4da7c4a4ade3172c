-- What every image on the way of a repair keeps, and what is found once it is done.
use Rattle.std.proofs.Common.{◌≡◌, ◌≢◌, ◌≤◌, ◌<◌, ◌⊎◌, ℕ, ◌+◌, ◌/◌, true, false, List, ◌++◌, length, map, get_or, Option, inl, inr, ⊎_elim}
use Rattle.std.proofs.Common.{sym, ap, subst, ◌∙◌, arith}
use Rattle.std.specs.Prelude.{All}
use Rattle.std.specs.FinSet.{contains}
use Rattle.std.proofs.lemmas.Bool.{cases_Bool, true≢false}
use Rattle.std.proofs.lemmas.List.Elements.{All-append, All-filter, filter_passes}
use Rattle.sector_base.specs.Spans.{covers}
use Rattle.disk_model.specs.Steps.{Image}
use Rattle.mda_header.specs.declared.header.Locn.{Locn}
use Rattle.mda_ring.specs.declared.area.Area.{Area}
use Rattle.mda_ring.proofs.SpanLaws.{covers_tells}
use Rattle.disk_batch.specs.InTurn.{HasFirstBatches, Put, with_batches}
use Rattle.disk_batch.specs.declared.batch.Batch.{Batch}
use Rattle.disk_batch.proofs.FrontBatches.{KeepsSector, batches_kept, first_or_more, front_kept}
use Rattle.disk_batch.proofs.InTurn.{batches_append}
use Rattle.vg_found.specs.Shape.{HasShape}
use Rattle.vg_found.specs.declared.found.Found.{Found}
use Rattle.vg_commit.specs.SectorReading.{AllShow, new_reading}
use Rattle.vg_commit.specs.Showing.{Names, sectors_of}
use Rattle.vg_commit.specs.Written.{area_span, header_span}
use Rattle.group_plan.specs.Judging.{lies_on}
use Rattle.group_plan.specs.declared.state.NewLabel.{NewLabel}
use Rattle.change_batches.specs.Batches.{batch_if, clear_batches, label_put}
use Rattle.change_batches.specs.Sound.{FitsFields}
use Rattle.change_batches.specs.Laws.{AreCleared, ClearsKeep, IsEmpty, IsKeptOrEmpty, IsKeptOrNew, IsUncleared}
use Rattle.change_batches.specs.Laws.{ShowsEntries}
use Rattle.change_batches.proofs.FarAreas.{IsFar}
use Rattle.change_batches.proofs.ClearedImages.{all_keep, are_cleared, is_kept as clears_kept}
use Rattle.change_batches.proofs.LabelPuts.{all_if, labels_keep_apart, labels_keep_far}
use Rattle.change_batches.proofs.LabelsRead.{has_label}
use Rattle.vg_repair.specs.Batches.{new_labels, old_labels, repair_batches, stale_batches, stray_areas, stray_labels}
use Rattle.vg_repair.specs.Building.{IsMade}
use Rattle.vg_repair.specs.Laws.{IsKept, IsOther, IsRight, KeepsImages, StraysAreOthers}
use Rattle.vg_repair.specs.Stale.{stale_areas, text_of}
use Rattle.vg_repair.proofs.HeldAreas.{are_scanned, each_far, stale_all, stale_held}
use Rattle.vg_repair.proofs.KeptTexts.{AreOutside, Fit, texts_keep, texts_shows, texts_there}
use Rattle.vg_repair.proofs.StaleOthers.{stale_elsewhere}
use Rattle.vg_repair.proofs.NewLabels.{labels_can, labels_found, labels_kept, labels_last, some_can}
use Rattle.vg_repair.proofs.Sublists.{all_back, all_front}

module _ (found : Found) (shape : HasShape found) (others : StraysAreOthers found) (fit : Fit (text_of found) (stale_areas found)) where
  abbrev stale : List (Area × Option Locn)
  stale = stale_areas found

  abbrev labels : List NewLabel
  labels = new_labels found

  abbrev cleared : List (Area × Option Locn)
  cleared = stray_areas found

  abbrev texts : List (List Put)
  texts = stale_batches (text_of found) stale

  abbrev olds : List (List Put)
  olds = batch_if (map label_put (old_labels found))

  abbrev front : List (List Put)
  front = texts ++ olds

  abbrev clears : List (List Put)
  clears = clear_batches found.strays found.disks found.areas

  -- ---- what the batches keep

  -- a sector of a stray's disk, or one that is among the first four, is none of a stale area
  near_outside : (pv sector : ℕ) → (contains found.strays pv ≡ true) ⊎ (sector < 4) → AreOutside pv sector stale
  near_outside pv sector near k d within =
      let a : Area × Option Locn = get_or stale k d in
      let begins : 2048 ≤ a.0.start = stale_all found shape IsFar (each_far found shape) k d within in
      ⊎_elim
      (λ is.
      let t = covers_tells (area_span a.0) pv sector is in
      ⊎_elim
      (λ stray. absurd (true≢false (sym stray ∙ ap (contains found.strays) (sym t.0) ∙ stale_elsewhere found others k d within)))
      (λ (low : sector < 4). absurd (omega (arith, t.1, begins, low))) near)
      (λ out. out)
      (cases_Bool (covers (area_span a.0) pv sector))

  texts_keep_near : (pv sector : ℕ) → (contains found.strays pv ≡ true) ⊎ (sector < 4) → All (KeepsSector pv sector) texts
  texts_keep_near pv sector near = texts_keep (text_of found) stale fit pv sector (near_outside pv sector near)

  -- labels are among the first four
  olds_keep_far : (pv sector : ℕ) → 4 ≤ sector → All (KeepsSector pv sector) olds
  olds_keep_far pv sector far =
      all_if (KeepsSector pv sector) (map label_put (old_labels found))
      (labels_keep_far (old_labels found) (some_can found shape true found.old) pv sector far)

  -- behind these other disks than strays aren't cleared
  far_uncleared : (pv sector : ℕ) → contains found.strays pv ≡ false → 4 ≤ sector
      → IsUncleared found.strays found.disks found.areas pv sector
  far_uncleared pv sector other far = record {
    labels =
        λ k d within. inr (λ same. let low : (get_or (stray_labels found) k d).sector
        < 4 = (some_can found shape false found.strays k d within).sector_below in omega (arith, low, same, far));
    headers = λ k d within.
        let a : Area × Option Locn = get_or cleared k d in
        ⊎_elim
        (λ is.
        let t = covers_tells (header_span a.0) pv sector is in
        absurd (true≢false (sym (filter_passes (lies_on found.strays) found.areas k d within) ∙ ap (contains found.strays) t.0 ∙ other)))
        (λ out. out)
        (cases_Bool (covers (header_span a.0) pv sector));
  }

  module _ (base : Image) (names : ShowsEntries found.areas base) where
    abbrev written : Image
    written = with_batches texts base

    abbrev first : Image
    first = with_batches front base

    first_far : (pv sector : ℕ) → 4 ≤ sector → first pv sector ≡ written pv sector
    first_far pv sector far =
        ap (λ (i : Image). i pv sector) (batches_append texts olds base)
        ∙ batches_kept olds written pv sector (olds_keep_far pv sector far)

    while_cleared : (image : Image) → HasFirstBatches clears first image → ClearsKeep found.strays found.disks found.areas first image
    while_cleared image h = clears_kept found.disks found.areas (are_scanned found shape) found.strays first image h

    -- ---- the stale areas

    stale_names : ShowsEntries stale base
    stale_names = stale_all found shape (λ (area : Area × Option Locn). Names area.0 area.1 (sectors_of area.0 base 0)) names

    stale_behind : (k : ℕ) (d : Area × Option Locn) → k < length stale → (sector : ℕ) → (get_or stale k d).0.start / 512 ≤ sector
        → 4 ≤ sector
    stale_behind k d within sector from =
        let begins : 2048 ≤ (get_or stale k d).0.start = stale_all found shape IsFar (each_far found shape) k d within in
        omega (arith, begins, from)

    stale_uncleared : (k : ℕ) (d : Area × Option Locn) → k < length stale → (sector : ℕ) → (get_or stale k d).0.start / 512 ≤ sector
        → IsUncleared found.strays found.disks found.areas (get_or stale k d).0.pv sector
    stale_uncleared k d within sector from =
        far_uncleared (get_or stale k d).0.pv sector (stale_elsewhere found others k d within) (stale_behind k d within sector from)

    stale_in_olds : (image : Image) → HasFirstBatches olds written image → AllShow (new_reading (text_of found)) stale image
    stale_in_olds image h =
        texts_there (text_of found) base stale fit stale_names image
        (λ k d within sector from.
        front_kept olds written image (get_or stale k d).0.pv sector
        (olds_keep_far (get_or stale k d).0.pv sector (stale_behind k d within sector from)) h)

    stale_in_clears : (image : Image) → HasFirstBatches clears first image → AllShow (new_reading (text_of found)) stale image
    stale_in_clears image h =
        texts_there (text_of found) base stale fit stale_names image
        (λ k d within sector from.
        (while_cleared image h).others (get_or stale k d).0.pv sector (stale_uncleared k d within sector from)
        ∙ first_far (get_or stale k d).0.pv sector (stale_behind k d within sector from))

    stale_kept : (image : Image) → HasFirstBatches (repair_batches found) base image → All (IsKeptOrNew (text_of found) base image) stale
    stale_kept image h =
        ⊎_elim
        (λ in_front.
        ⊎_elim
        (λ in_texts. texts_shows (text_of found) base stale fit stale_names image in_texts)
        (λ in_olds k d within. inr (stale_in_olds image in_olds k d within))
        (first_or_more texts olds base image in_front))
        (λ in_clears k d within. inr (stale_in_clears image in_clears k d within))
        (first_or_more front clears base image h)

    -- ---- the headers of strays

    stray_there : (k : ℕ) (d : Area × Option Locn) → k < length cleared → contains found.strays (get_or cleared k d).0.pv ≡ true
    stray_there k d within = filter_passes (lies_on found.strays) found.areas k d within

    headers_kept : (image : Image) → HasFirstBatches (repair_batches found) base image → All (IsKeptOrEmpty base image) cleared
    headers_kept image h k d within =
        let a : Area × Option Locn = get_or cleared k d in
        let begins : 2048 ≤ a.0.start = All-filter (lies_on found.strays) IsFar found.areas (each_far found shape) k d within in
        let keep : All (KeepsSector a.0.pv (a.0.start / 512 + 0)) front =
        All-append (KeepsSector a.0.pv (a.0.start / 512 + 0)) texts olds
        (texts_keep_near a.0.pv (a.0.start / 512 + 0) (inl (stray_there k d within)))
        (olds_keep_far a.0.pv (a.0.start / 512 + 0) (omega (arith, begins)))
        in
        ⊎_elim
        (λ in_front. inl (front_kept front base image a.0.pv (a.0.start / 512 + 0) keep in_front))
        (λ in_clears. ⊎_elim (λ old. inl (old ∙ batches_kept front base a.0.pv (a.0.start / 512 + 0) keep)) (λ new. inr new)
        ((while_cleared image in_clears).headers k d within))
        (first_or_more front clears base image h)

    -- ---- and other sectors

    others_kept : (image : Image) → HasFirstBatches (repair_batches found) base image → (pv sector : ℕ) → IsOther found pv sector
        → image pv sector ≡ base pv sector
    others_kept image h pv sector other =
        let keep : All (KeepsSector pv sector) front =
        All-append (KeepsSector pv sector) texts olds (texts_keep (text_of found) stale fit pv sector other.stale)
        (all_if (KeepsSector pv sector) (map label_put (old_labels found))
        (labels_keep_apart (old_labels found) pv sector
        (all_front (λ (label : NewLabel). (label.disk ≢ pv) ⊎ (label.sector ≢ sector)) (old_labels found) (stray_labels found)
        other.labels)))
        in
        ⊎_elim
        (λ in_front. front_kept front base image pv sector keep in_front)
        (λ in_clears.
        (while_cleared image in_clears).others pv sector (record {
          labels =
              all_back (λ (label : NewLabel). (label.disk ≢ pv) ⊎ (label.sector ≢ sector)) (old_labels found) (stray_labels found)
              other.labels;
          headers = other.headers;
        })
        ∙ batches_kept front base pv sector keep)
        (first_or_more front clears base image h)

    pub is_kept : (image : Image) → HasFirstBatches (repair_batches found) base image → IsKept found base image
    is_kept image h = record {
      stale = stale_kept image h;
      labels = labels_kept found shape others base (λ pv sector low. texts_keep_near pv sector (inr low)) image h;
      headers = headers_kept image h;
      others = others_kept image h;
    }

    -- ---- once all is written

    abbrev last : Image
    last = with_batches (repair_batches found) base

    last_is : last ≡ with_batches clears first
    last_is = batches_append front clears base

    stale_right : AllShow (new_reading (text_of found)) stale last
    stale_right =
        texts_there (text_of found) base stale fit stale_names last
        (λ k d within sector from.
        let pv : ℕ = (get_or stale k d).0.pv in
        ap (λ (i : Image). i pv sector) last_is ∙ batches_kept clears first pv sector
        (all_keep found.disks found.areas (are_scanned found shape) found.strays pv sector (stale_uncleared k d within sector from))
        ∙ first_far pv sector (stale_behind k d within sector from))

    pub is_right : All FitsFields labels → IsRight found last
    is_right fields =
        let done : AreCleared found.strays found.disks found.areas (with_batches clears first) =
        are_cleared found.disks found.areas (are_scanned found shape) found.strays first
        (all_back FitsFields (old_labels found) (stray_labels found) fields) in
        record {
          stale = stale_right;
          labels =
              λ k d within. has_label (get_or labels k d) last (labels_can found shape k d within) (fields k d within)
              (labels_found found shape k d within) (labels_last found shape others base k d within);
          headers = subst (λ (i : Image). All (IsEmpty i) cleared) (sym last_is) done.headers;
        }

-- both, where the batches were made
pub keeps_images : (found : Found) (batches : List Batch) → HasShape found → StraysAreOthers found → IsMade found batches
    → KeepsImages found
keeps_images found batches shape others made =
    let fit : Fit (text_of found) (stale_areas found) = record { held = stale_held found shape; room = made.room; read = made.read } in
    record {
      kept = λ base image names h. is_kept found shape others fit base names image h;
      right = λ base names. is_right found shape others fit base names made.fields;
    }
