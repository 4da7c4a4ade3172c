-- What every image on the way of a change keeps of areas and labels, and what areas show once all is written.
use Rattle.std.proofs.Common.{◌≡◌, ◌≢◌, ◌≤◌, ◌<◌, ◌⊎◌, ℕ, ◌+◌, ◌/◌, Bool, true, false, cond, List, [], ◌∷◌, ◌++◌, length, map, flat_map}
use Rattle.std.proofs.Common.{get_or, Option, None, Some, inl, inr, ⊎_elim, refl, sym, ap, subst, ◌∙◌, append_assoc, arith}
use Rattle.std.specs.Prelude.{All, filter, take as front_of}
use Rattle.std.specs.FinSet.{contains}
use Rattle.std.proofs.lemmas.Bool.{cases_Bool, true≢false}
use Rattle.std.proofs.lemmas.List.Elements.{All-append, All-cons, All-filter, All-head, All-nil, All-tail, All-take, filter_passes}
use Rattle.sector_base.specs.Spans.{covers}
use Rattle.disk_model.specs.Steps.{Image}
use Rattle.mda_header.specs.declared.header.Locn.{Locn}
use Rattle.mda_ring.specs.declared.area.Area.{Area}
use Rattle.mda_ring.specs.Areas.{CanTake}
use Rattle.mda_ring.proofs.SpanLaws.{covers_tells}
use Rattle.conf_text.specs.Printed.{printed}
use Rattle.meta_model.specs.declared.group.Group.{Group}
use Rattle.meta_print.specs.Layout.{tree_of}
use Rattle.disk_batch.specs.InTurn.{HasFirstBatches, Put, with_batches}
use Rattle.disk_batch.proofs.FrontBatches.{KeepsSector, batches_kept, but_last, first_or_more, front_kept}
use Rattle.disk_batch.proofs.InTurn.{batches_append}
use Rattle.vg_commit.specs.Plans.{HeadersRead}
use Rattle.vg_commit.specs.SectorReading.{AllShow, AreSized, Reading, ShowsBy, new_reading, old_reading}
use Rattle.vg_commit.specs.Written.{area_span, area_writes, headers_of, publish_of, texts_of}
use Rattle.vg_commit.proofs.CommitImages.{commit_keeps, commit_shows, commit_shown, commit_unpublished}
use Rattle.group_plan.specs.Judging.{lies_on, set_of}
use Rattle.group_plan.specs.declared.state.Change.{Change}
use Rattle.group_plan.specs.declared.state.NewLabel.{NewLabel}
use Rattle.change_batches.specs.Batches.{area_puts, areas_of, batch_if, commit_batches, label_bytes, label_put, new_area_puts}
use Rattle.change_batches.specs.Laws.{AreasKeptBy, IsKeptOrNew, IsOnOther, LabelsKept, ShowsEntries, text_in}
use Rattle.change_batches.specs.Sound.{CanLabel, CanTakeText}
use Rattle.change_batches.proofs.BaseShows.{base_shows, base_sized, shows_alike}
use Rattle.change_batches.proofs.FarAreas.{IsFar}
use Rattle.change_batches.proofs.LabelPuts.{AreApart, all_if, labels_after, labels_keep_far, labels_keep_other, labels_kept}

-- what holds of all elements that pass a test
pub of_passed : {X : Type 0} (p : X → Bool) (Q : X → Type 0) (xs : List X) → All Q (filter p xs) → All (λ (x : X). p x ≡ true → Q x) xs
of_passed p Q [] all = All-nil (λ x. p x ≡ true → Q x)
of_passed p Q (x ∷ xs) all = step (λ later. of_passed p Q xs later) (p x) refl all
  where
    step : (All Q (filter p xs) → All (λ y. p y ≡ true → Q y) xs) → (b : Bool) → p x ≡ b → All Q (cond b (x ∷ filter p xs) (filter p xs))
        → All (λ y. p y ≡ true → Q y) (x ∷ xs)
    step rest true is here =
        All-cons (λ y. p y ≡ true → Q y) x xs (λ _. All-head Q x (filter p xs) here) (rest (All-tail Q x (filter p xs) here))
    step rest false is here = All-cons (λ y. p y ≡ true → Q y) x xs (λ yes. absurd (true≢false (sym yes ∙ is))) (rest here)

-- these writes leave each sector of other disks, and the first four of each
abbrev pub KeepNear : List NewLabel → List Put → Type 0
KeepNear labels puts = (pv sector : ℕ) → All (λ (label : NewLabel). label.disk ≢ pv) labels ⊎ (sector < 4) → KeepsSector pv sector puts

module _ (areas : List (Area × Option Locn)) (take : All CanTake areas) (far : All IsFar areas) (change : Change)
    (can : All CanLabel change.labels) (differ : AreApart change.labels) (base : Image) (names : ShowsEntries areas base) where
  abbrev old : Reading
  old = old_reading (text_in base)

  abbrev label_puts : List Put
  label_puts = map label_put change.labels

  -- an area whose disk is as in the base from sector 4 on shows what it shows there
  alike : (image : Image) (k : ℕ) (d : Area × Option Locn) (within : k < length areas)
      → ((sector : ℕ) → 4 ≤ sector → image (get_or areas k d).0.pv sector ≡ base (get_or areas k d).0.pv sector)
      → ShowsBy old image (get_or areas k d)
  alike image k d within same =
      let a : Area × Option Locn = get_or areas k d in
      let begins : 2048 ≤ a.0.start = far k d within in
      shows_alike old a base image (take k d within).0 (base_sized areas base take k d within)
      (λ sector inside. same (a.0.start / 512 + sector) (omega (arith, begins))) (base_shows areas base names k d within)

  -- ---- no group is committed

  module _ (puts : List Put) (near : KeepNear change.labels puts) where
    abbrev new_batches : List (List Put)
    new_batches = batch_if puts ++ batch_if label_puts ++ []

    elsewhere : (pv sector : ℕ) → All (λ (label : NewLabel). label.disk ≢ pv) change.labels → All (KeepsSector pv sector) new_batches
    elsewhere pv sector other =
        All-append (KeepsSector pv sector) (batch_if puts ++ batch_if label_puts) []
        (All-append (KeepsSector pv sector) (batch_if puts) (batch_if label_puts)
        (all_if (KeepsSector pv sector) puts (near pv sector (inl other)))
        (all_if (KeepsSector pv sector) label_puts (labels_keep_other change.labels pv sector other)))
        (All-nil (KeepsSector pv sector))

    kept_none : (image : Image) → HasFirstBatches new_batches base image
        → All (λ (area : Area × Option Locn). IsOnOther change.labels area → ShowsBy old image area) areas
    kept_none image h k d within other =
        alike image k d within (λ sector far'. front_kept new_batches base image (get_or areas k d).0.pv sector
        (elsewhere (get_or areas k d).0.pv sector other) h)

    before_new : All (λ (label : NewLabel). All (KeepsSector label.disk label.sector) (batch_if puts)) change.labels
    before_new k d within =
        let label : NewLabel = get_or change.labels k d in
        all_if (KeepsSector label.disk label.sector) puts (near label.disk label.sector (inr (can k d within).sector_below))

    behind_none : All (λ (label : NewLabel). All (KeepsSector label.disk label.sector) []) change.labels
    behind_none k d within = All-nil (KeepsSector (get_or change.labels k d).disk (get_or change.labels k d).sector)

  -- ---- a group is committed

  module _ (text : List ℕ) (fits : CanTakeText change areas text) (read : All (HeadersRead text) (areas_of change areas)) where
    abbrev own : List (Area × Option Locn)
    own = areas_of change areas

    abbrev commit : List (List Put)
    commit = texts_of (map (area_writes text) own) ∷ headers_of (map (area_writes text) own) ∷ publish_of (map (area_writes text) own) ∷ []

    abbrev first : Image
    first = with_batches (batch_if [] ++ batch_if label_puts) base

    far_kept : (pv sector : ℕ) → 4 ≤ sector → All (KeepsSector pv sector) (batch_if [] ++ batch_if label_puts)
    far_kept pv sector behind = all_if (KeepsSector pv sector) label_puts (labels_keep_far change.labels can pv sector behind)

    first_far : (pv sector : ℕ) → 4 ≤ sector → first pv sector ≡ base pv sector
    first_far pv sector behind = batches_kept (batch_if [] ++ batch_if label_puts) base pv sector (far_kept pv sector behind)

    -- once the labels are written the areas show what they show in the base
    first_shows : AllShow old own first
    first_shows =
        All-filter (lies_on (set_of change.disk_of)) (ShowsBy old first) areas
        (λ k d within. alike first k d within (first_far (get_or areas k d).0.pv))

    own_sized : AreSized old own
    own_sized = base_sized own base fits.committed.take

    -- the commit writes to no other disk
    outside : (pv sector : ℕ) → contains (set_of change.disk_of) pv ≡ false
        → All (λ (a : Area × Option Locn). covers (area_span a.0) pv sector ≡ false) own
    outside pv sector none k d within =
        let a : Area × Option Locn = get_or own k d in
        ⊎_elim
        (λ is.
        let t = covers_tells (area_span a.0) pv sector is in
        absurd (true≢false (sym (filter_passes (lies_on (set_of change.disk_of)) areas k d within)
        ∙ (ap (contains (set_of change.disk_of)) t.0 ∙ none))))
        (λ out. out)
        (cases_Bool (covers (area_span a.0) pv sector))

    kept_commit : (image : Image) → HasFirstBatches commit first image → (k : ℕ) (d : Area × Option Locn) (within : k < length areas)
        → (b : Bool) → lies_on (set_of change.disk_of) (get_or areas k d) ≡ b → IsKeptOrNew text base image (get_or areas k d)
    kept_commit image h k d within true on =
        of_passed (lies_on (set_of change.disk_of)) (IsKeptOrNew text base image) areas
        (commit_shows text own (set_of change.disk_of) fits.committed fits.room read (text_in base) first first_shows own_sized image h) k d
        within on
    kept_commit image h k d within false off =
        let pv : ℕ = (get_or areas k d).0.pv in
        inl (alike image k d within (λ sector behind.
        front_kept commit first image pv sector (commit_keeps text own (set_of change.disk_of) fits.committed fits.room read pv sector
        (outside pv sector off)) h
        ∙ first_far pv sector behind))

    kept_some : (image : Image) → HasFirstBatches (batch_if [] ++ batch_if label_puts ++ commit) base image
        → All (IsKeptOrNew text base image) areas
    kept_some image h k d within =
        ⊎_elim
        (λ in_labels. inl (alike image k d within (λ sector behind.
        front_kept (batch_if [] ++ batch_if label_puts) base image (get_or areas k d).0.pv sector
        (far_kept (get_or areas k d).0.pv sector behind) in_labels)))
        (λ in_commit. kept_commit image in_commit k d within (lies_on (set_of change.disk_of) (get_or areas k d)) refl)
        (first_or_more (batch_if [] ++ batch_if label_puts) commit base image h)

    -- ---- until the headers are published

    abbrev written_first : List (List Put)
    written_first = texts_of (map (area_writes text) own) ∷ headers_of (map (area_writes text) own) ∷ []

    unpublished_commit : (image : Image) → HasFirstBatches written_first first image
        → (k : ℕ) (d : Area × Option Locn) (within : k < length areas)
        → (b : Bool) → lies_on (set_of change.disk_of) (get_or areas k d) ≡ b → ShowsBy old image (get_or areas k d)
    unpublished_commit image h k d within true on =
        of_passed (lies_on (set_of change.disk_of)) (ShowsBy old image) areas
        (commit_unpublished text own (set_of change.disk_of) fits.committed fits.room read (text_in base) first first_shows own_sized image
        h) k d within on
    unpublished_commit image h k d within false off =
        let pv : ℕ = (get_or areas k d).0.pv in
        alike image k d within (λ sector behind.
        front_kept written_first first image pv sector
        (All-take (KeepsSector pv sector) 2 commit
        (commit_keeps text own (set_of change.disk_of) fits.committed fits.room read pv sector (outside pv sector off))) h
        ∙ first_far pv sector behind)

    unpublished_some : (image : Image) → HasFirstBatches (batch_if [] ++ batch_if label_puts ++ written_first) base image
        → AllShow old areas image
    unpublished_some image h k d within =
        ⊎_elim
        (λ in_labels. alike image k d within (λ sector behind.
        front_kept (batch_if [] ++ batch_if label_puts) base image (get_or areas k d).0.pv sector
        (far_kept (get_or areas k d).0.pv sector behind) in_labels))
        (λ in_commit. unpublished_commit image in_commit k d within (lies_on (set_of change.disk_of) (get_or areas k d)) refl)
        (first_or_more (batch_if [] ++ batch_if label_puts) written_first base image h)

    split : batch_if [] ++ batch_if label_puts ++ commit
        ≡ batch_if [] ++ batch_if label_puts ++ written_first ++ publish_of (map (area_writes text) own) ∷ []
    split = sym (append_assoc (batch_if [] ++ batch_if label_puts) written_first (publish_of (map (area_writes text) own) ∷ []))

    shown_unpublished : (image : Image) (n : ℕ) → n < length (batch_if [] ++ batch_if label_puts ++ commit)
        → HasFirstBatches (front_of n (batch_if [] ++ batch_if label_puts ++ commit)) base image → AllShow old areas image
    shown_unpublished image n less h =
        unpublished_some image
        (but_last (batch_if [] ++ batch_if label_puts ++ written_first) (publish_of (map (area_writes text) own)) n base image
        (subst (λ (l : List (List Put)). n < length l) split less)
        (subst (λ (l : List (List Put)). HasFirstBatches (front_of n l) base image) split h))

    -- the areas of the group show its text at the end
    shown_some : AllShow (new_reading text) own (with_batches (batch_if [] ++ batch_if label_puts ++ commit) base)
    shown_some =
        subst (AllShow (new_reading text) own) (sym (batches_append (batch_if [] ++ batch_if label_puts) commit base))
        (commit_shown text own (set_of change.disk_of) fits.committed fits.room read (text_in base) first first_shows own_sized)

    -- no label's sector is one of an area
    near_outside : (pv sector : ℕ) → sector < 4 → All (λ (a : Area × Option Locn). covers (area_span a.0) pv sector ≡ false) own
    near_outside pv sector low k d within =
        let a : Area × Option Locn = get_or own k d in
        let begins : 2048 ≤ a.0.start = All-filter (lies_on (set_of change.disk_of)) IsFar areas far k d within in
        ⊎_elim
        (λ is. let t = covers_tells (area_span a.0) pv sector is in absurd (omega (arith, t.1, begins, low)))
        (λ out. out)
        (cases_Bool (covers (area_span a.0) pv sector))

    before_none : All (λ (label : NewLabel). All (KeepsSector label.disk label.sector) []) change.labels
    before_none k d within = All-nil (KeepsSector (get_or change.labels k d).disk (get_or change.labels k d).sector)

    behind_commit : All (λ (label : NewLabel). All (KeepsSector label.disk label.sector) commit) change.labels
    behind_commit k d within =
        let label : NewLabel = get_or change.labels k d in
        commit_keeps text own (set_of change.disk_of) fits.committed fits.room read label.disk label.sector
        (near_outside label.disk label.sector (can k d within).sector_below)

  -- ---- both

  module _ (now : ℕ) (near : change.group ≡ None → KeepNear change.labels (flat_map area_puts change.labels))
      (fits : (group : Group) → change.group ≡ Some group → CanTakeText change areas (printed (tree_of group now)))
      (read : (group : Group) → change.group ≡ Some group → All (HeadersRead (printed (tree_of group now))) (areas_of change areas)) where
    abbrev batches : Option Group → List (List Put)
    batches g = batch_if (new_area_puts g change.labels) ++ batch_if label_puts ++ commit_batches g now (areas_of change areas)

    kept_by : (image : Image) (g : Option Group) → change.group ≡ g → HasFirstBatches (batches g) base image
        → AreasKeptBy g now change areas base image × LabelsKept change.labels base image
    kept_by image None is h =
        let puts : List Put = flat_map area_puts change.labels in (
          kept_none puts (near is) image h,
          labels_kept (batch_if puts) change.labels [] differ (behind_none puts (near is)) base (before_new puts (near is)) image h,
        )
    kept_by image (Some group) is h =
        let text : List ℕ = printed (tree_of group now) in (
          kept_some text (fits group is) (read group is) image h,
          labels_kept [] change.labels (commit text (fits group is) (read group is)) differ
              (behind_commit text (fits group is) (read group is)) base (before_none text (fits group is) (read group is)) image h,
        )

    pub change_kept : (image : Image) → HasFirstBatches (batches change.group) base image
        → AreasKeptBy change.group now change areas base image × LabelsKept change.labels base image
    change_kept image = kept_by image change.group refl

    -- each label stands in its sector at the end
    there_by : (g : Option Group) → change.group ≡ g → (k : ℕ) (d : NewLabel) → k < length change.labels
        → with_batches (batches g) base (get_or change.labels k d).disk (get_or change.labels k d).sector
        ≡ label_bytes (get_or change.labels k d)
    there_by None is =
        let puts : List Put = flat_map area_puts change.labels in
        labels_after (batch_if puts) change.labels [] differ (behind_none puts (near is)) base
    there_by (Some group) is =
        let text : List ℕ = printed (tree_of group now) in
        labels_after [] change.labels (commit text (fits group is) (read group is)) differ
        (behind_commit text (fits group is) (read group is)) base

    pub labels_stand : (k : ℕ) (d : NewLabel) → k < length change.labels
        → with_batches (batches change.group) base (get_or change.labels k d).disk (get_or change.labels k d).sector
        ≡ label_bytes (get_or change.labels k d)
    labels_stand = there_by change.group refl

    pub areas_shown : (group : Group) → change.group ≡ Some group
        → AllShow (new_reading (printed (tree_of group now))) (areas_of change areas) (with_batches (batches (Some group)) base)
    areas_shown group is = shown_some (printed (tree_of group now)) (fits group is) (read group is)

    -- until its headers are published
    pub areas_unpublished : (group : Group) → change.group ≡ Some group → (image : Image) (n : ℕ) → n < length (batches (Some group))
        → HasFirstBatches (front_of n (batches (Some group))) base image → AllShow old areas image
    areas_unpublished group is = shown_unpublished (printed (tree_of group now)) (fits group is) (read group is)
