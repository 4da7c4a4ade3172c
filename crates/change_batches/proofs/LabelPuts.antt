-- The batch of label sectors, between one batch before it and others behind it.
use Rattle.std.proofs.Common.{◌≡◌, ◌≢◌, ◌≤◌, ◌<◌, ◌⊎◌, ℕ, zero, suc, ◌+◌, ◌-◌, true, List, [], ◌∷◌, ◌++◌, length, map, get_or, inl, inr}
use Rattle.std.proofs.Common.{⊎_elim, refl, sym, ap, ◌∙◌, arith}
use Rattle.std.specs.Prelude.{All, AllPairs}
use Rattle.std.proofs.lemmas.Bool.{cases_lt, or_left, or_right, true≢false}
use Rattle.std.proofs.lemmas.List.Elements.{All-cons, All-nil}
use Rattle.sector_base.specs.Spans.{covers}
use Rattle.disk_model.specs.Puts.{one_sector}
use Rattle.disk_model.specs.Steps.{Image, value_at}
use Rattle.disk_model.specs.Submitting.{writes_at}
use Rattle.mda_ring.proofs.SpanLaws.{covers_from, covers_tells}
use Rattle.disk_batch.specs.Writes.{IsWrittenBy, write_work}
use Rattle.disk_batch.specs.InTurn.{HasFirstBatches, Put, with_batches, with_writes}
use Rattle.disk_batch.proofs.FrontBatches.{KeepsSector, batches_kept, first_or_more, front_kept, keeps_sector, none_front, one_front}
use Rattle.disk_batch.proofs.InTurn.{batches_append}
use Rattle.disk_batch.proofs.WritesOnImages.{written_or_kept}
use Rattle.group_plan.specs.declared.state.NewLabel.{NewLabel}
use Rattle.change_batches.specs.Batches.{batch_if, label_bytes, label_put}
use Rattle.change_batches.specs.Laws.{LabelsKept}
use Rattle.change_batches.specs.Sound.{CanLabel}

-- ---- one sector

-- the sector of a write of one sector, and what it has there
pub one_tells : (disk first pv sector : ℕ) → covers (one_sector disk first) pv sector ≡ true → (disk ≡ pv) × (first ≡ sector)
one_tells disk first pv sector is =
    let t : (disk ≡ pv) × (first ≤ sector) × (sector < first + 1) = covers_tells (one_sector disk first) pv sector
    is in (t.0, omega (arith, t.1, t.2))

pub one_value : (disk first sector : ℕ) (bytes : List ℕ) → first ≡ sector → value_at (one_sector disk first) (bytes ∷ []) sector ≡ bytes
one_value disk first sector bytes at = let front : sector - first ≡ 0 = omega (arith, at) in ap (λ (k : ℕ). get_or (bytes ∷ []) k []) front

pub one_covers : (disk sector : ℕ) → covers (one_sector disk sector) disk sector ≡ true
one_covers disk sector = covers_from (one_sector disk sector) disk sector refl (omega arith) (omega arith)

-- ---- which label's a write is

pub label_where : (labels : List NewLabel) (d : NewLabel) (pv sector : ℕ) (value : List ℕ)
    → IsWrittenBy (map label_put labels) pv sector value
    → (k : ℕ) × (k < length labels) × ((get_or labels k d).disk ≡ pv) × ((get_or labels k d).sector ≡ sector)
    × (value ≡ label_bytes (get_or labels k d))
label_where [] d pv sector value by = absurd by
label_where (label ∷ labels) d pv sector value (inl own) =
    let t = one_tells label.disk label.sector pv sector own.0 in
    (0, omega arith, t.0, t.1, own.1 ∙ one_value label.disk label.sector sector (label_bytes label) t.1)
label_where (label ∷ labels) d pv sector value (inr more) =
    let w = label_where labels d pv sector value more in (suc w.0, omega (arith, w.1), w.2, w.3, w.4)

-- each label is written
label_at : (labels : List NewLabel) (d : NewLabel) (k : ℕ) → k < length labels
    → writes_at (map write_work (map label_put labels)) (get_or labels k d).disk (get_or labels k d).sector ≡ true
label_at [] d k within = absurd (omega arith)
label_at (label ∷ labels) d zero within =
    or_left (covers (one_sector label.disk label.sector) label.disk label.sector)
    (writes_at (map write_work (map label_put labels)) label.disk label.sector) (one_covers label.disk label.sector)
label_at (label ∷ labels) d (suc k) within =
    or_right (covers (one_sector label.disk label.sector) (get_or labels k d).disk (get_or labels k d).sector)
    (writes_at (map write_work (map label_put labels)) (get_or labels k d).disk (get_or labels k d).sector)
    (label_at labels d k (omega arith))

-- no two labels are on one disk
abbrev pub AreApart : List NewLabel → Type 0
AreApart labels = AllPairs (λ (a b : NewLabel). a.disk ≢ b.disk) labels

same_label : (labels : List NewLabel) → AreApart labels → (d : NewLabel) (j k : ℕ) → j < length labels → k < length labels
    → (get_or labels j d).disk ≡ (get_or labels k d).disk → get_or labels j d ≡ get_or labels k d
same_label labels differ d j k in_j in_k same =
    ⊎_elim
    (λ (below : j < k). absurd (differ j k d below in_k same))
    (λ (from : k ≤ j).
    ⊎_elim
    (λ (above : k < j). absurd (differ k j d above in_j (sym same)))
    (λ (upto : j ≤ k). ap (λ (i : ℕ). get_or labels i d) (omega (arith, from, upto)))
    (cases_lt k j))
    (cases_lt j k)

-- so each sector has its label once all are written
pub labels_there : (labels : List NewLabel) (base : Image) → AreApart labels → (k : ℕ) (d : NewLabel) → k < length labels
    → with_writes (map label_put labels) base (get_or labels k d).disk (get_or labels k d).sector ≡ label_bytes (get_or labels k d)
labels_there labels base differ k d within =
    let label : NewLabel = get_or labels k d in
    ⊎_elim
    (λ kept. absurd (true≢false (sym (label_at labels d k within) ∙ kept.1)))
    (λ by. let w = label_where labels d label.disk label.sector (with_writes (map label_put labels) base label.disk label.sector) by in w.4
    ∙ ap label_bytes (same_label labels differ d w.0 k w.1 within w.2))
    (written_or_kept (map label_put labels) base label.disk label.sector)

-- ---- what the batch keeps

-- some label, where a list has none
pub no_label : NewLabel
no_label =
    record { disk = 0; sector = 0; header = record { id = []; device_bytes = 0; data_areas = []; areas = []; version = 0; flags = 0 } }

-- sectors behind the first four
pub labels_keep_far : (labels : List NewLabel) → All CanLabel labels → (pv sector : ℕ) → 4 ≤ sector
    → KeepsSector pv sector (map label_put labels)
labels_keep_far labels can pv sector far =
    keeps_sector (map label_put labels) pv sector
    (λ value by.
    let w = label_where labels no_label pv sector value by in
    let low : (get_or labels w.0 no_label).sector < 4 = (can w.0 no_label w.1).sector_below in
    omega (arith, far, low, w.3))

-- other sectors
pub labels_keep_apart : (labels : List NewLabel) (pv sector : ℕ)
    → All (λ (label : NewLabel). (label.disk ≢ pv) ⊎ (label.sector ≢ sector)) labels → KeepsSector pv sector (map label_put labels)
labels_keep_apart labels pv sector other =
    keeps_sector (map label_put labels) pv sector
    (λ value by.
    let w = label_where labels no_label pv sector value by in ⊎_elim (λ disk. disk w.2) (λ at. at w.3) (other w.0 no_label w.1))

-- and other disks
pub labels_keep_other : (labels : List NewLabel) (pv sector : ℕ) → All (λ (label : NewLabel). label.disk ≢ pv) labels
    → KeepsSector pv sector (map label_put labels)
labels_keep_other labels pv sector other = labels_keep_apart labels pv sector (λ k d within. inl (other k d within))

-- ---- a batch where it isn't empty

pub all_if : (P : List Put → Type 0) (puts : List Put) → P puts → All P (batch_if puts)
all_if P [] holds = All-nil P
all_if P (put ∷ puts) holds = All-cons P (put ∷ puts) [] holds (All-nil P)

pub with_if : (puts : List Put) (base : Image) → with_batches (batch_if puts) base ≡ with_writes puts base
with_if [] base = refl
with_if (put ∷ puts) base = refl

pub if_either : (puts : List Put) (base image : Image) (pv sector : ℕ) → HasFirstBatches (batch_if puts) base image
    → (image pv sector ≡ base pv sector) ⊎ (image pv sector ≡ with_writes puts base pv sector)
if_either [] base image pv sector h = inl (none_front base image h pv sector)
if_either (put ∷ puts) base image pv sector h = one_front (put ∷ puts) base image h pv sector

-- ---- with others before and behind that leave the labels' sectors

module _ (front : List (List Put)) (labels : List NewLabel) (more : List (List Put)) (differ : AreApart labels)
    (behind : All (λ (label : NewLabel). All (KeepsSector label.disk label.sector) more) labels) (base : Image) where
  abbrev both : List (List Put)
  both = front ++ batch_if (map label_put labels)

  abbrev all : List (List Put)
  all = both ++ more

  abbrev first : Image
  first = with_batches front base

  -- once they are written
  both_there : (k : ℕ) (d : NewLabel) → k < length labels
      → with_batches both base (get_or labels k d).disk (get_or labels k d).sector ≡ label_bytes (get_or labels k d)
  both_there k d within =
      let label : NewLabel = get_or labels k d in
      ap (λ (i : Image). i label.disk label.sector)
      (batches_append front (batch_if (map label_put labels)) base ∙ with_if (map label_put labels) first)
      ∙ labels_there labels first differ k d within

  pub labels_after : (k : ℕ) (d : NewLabel) → k < length labels
      → with_batches all base (get_or labels k d).disk (get_or labels k d).sector ≡ label_bytes (get_or labels k d)
  labels_after k d within =
      let label : NewLabel = get_or labels k d in
      ap (λ (i : Image). i label.disk label.sector) (batches_append both more base)
      ∙ batches_kept more (with_batches both base) label.disk label.sector (behind k d within)
      ∙ both_there k d within

  -- and on the way
  pub labels_kept : All (λ (label : NewLabel). All (KeepsSector label.disk label.sector) front) labels → (image : Image)
      → HasFirstBatches all base image → LabelsKept labels base image
  labels_kept before image h k d within =
      let label : NewLabel = get_or labels k d in
      ⊎_elim
      (λ in_both.
      ⊎_elim
      (λ in_first. inl (front_kept front base image label.disk label.sector (before k d within) in_first))
      (λ in_labels.
      ⊎_elim
      (λ old. inl (old ∙ batches_kept front base label.disk label.sector (before k d within)))
      (λ new. inr (new ∙ labels_there labels first differ k d within))
      (if_either (map label_put labels) first image label.disk label.sector in_labels))
      (first_or_more front (batch_if (map label_put labels)) base image in_both))
      (λ in_more. inr (front_kept more (with_batches both base) image label.disk label.sector (behind k d within) in_more
      ∙ both_there k d within))
      (first_or_more both more base image h)
