-- What the three batches of a commit leave in each sector of an image, where they are carried out in turn.
use Rattle.std.proofs.Common.{◌≡◌, ◌≤◌, ◌⊎◌, ℕ, zero, suc, Bool, true, false, List, [], ◌∷◌, take, inl, inr, ⊎_elim, sym, ap, subst, ◌∙◌}
use Rattle.std.proofs.Common.{arith}
use Rattle.std.proofs.lemmas.List.{take_all}
use Rattle.disk_model.specs.Steps.{Image}
use Rattle.disk_batch.specs.InTurn.{HasFirstBatches, Put, with_batches, with_writes}
use Rattle.disk_batch.proofs.WritesOnImages.{written_at, written_or_kept}
use Rattle.vg_commit.specs.Commits.{MakeCommit, Published, WithTexts, written_at as is_written}

module _ (Old New : ℕ → ℕ → List ℕ → Type 0) (texts headers publish : List Put) (text_disks publish_disks : List ℕ)
    (make : MakeCommit Old New texts headers publish text_disks publish_disks) where
  abbrev Header : ℕ → ℕ → Bool
  Header pv sector = is_written headers pv sector

  -- one sector, which reads as the old one in the base
  module _ (base : Image) (pv sector : ℕ) (old : Old pv sector (base pv sector)) where
    abbrev with_texts : Image
    with_texts = with_writes texts base

    abbrev with_headers : Image
    with_headers = with_writes headers with_texts

    abbrev with_all : Image
    with_all = with_writes publish with_headers

    texts_there : WithTexts Header Old New pv sector (with_texts pv sector)
    texts_there =
        ⊎_elim
        (λ kept. (subst (Old pv sector) (sym kept.0) old, λ no. make.rest pv sector (with_texts pv sector) no kept.1))
        (λ by. (make.texts_old pv sector (with_texts pv sector) by, λ no. make.texts_new pv sector (with_texts pv sector) by))
        (written_or_kept texts base pv sector)

    headers_there : WithTexts Header Old New pv sector (with_headers pv sector)
    headers_there =
        ⊎_elim
        (λ kept. subst (WithTexts Header Old New pv sector) (sym kept.0) texts_there)
        (λ by. (
          make.headers_old pv sector (with_headers pv sector) by,
          λ no. absurd (let h : true ≡ false = sym (written_at headers pv sector (with_headers pv sector) by) ∙ no in cc),
        ))
        (written_or_kept headers with_texts pv sector)

    all_there : New pv sector (with_all pv sector) × (Header pv sector ≡ false → Old pv sector (with_all pv sector))
    all_there =
        ⊎_elim
        (λ kept.
        let no : Header pv sector ≡ false = sym (make.same_headers pv sector) ∙ kept.1 in
        (subst (New pv sector) (sym kept.0) (headers_there.1 no), λ no'. subst (Old pv sector) (sym kept.0) headers_there.0))
        (λ by. (
          make.publish_new pv sector (with_all pv sector) by,
          λ no. absurd (let h : true ≡ false = sym (written_at publish pv sector (with_all pv sector) by)
              ∙ (make.same_headers pv sector ∙ no) in cc),
        ))
        (written_or_kept publish with_headers pv sector)

    published_before : Published Header Old New pv sector (with_headers pv sector)
    published_before = (inl headers_there.0, λ no. (headers_there.0, headers_there.1 no))

    published_after : Published Header Old New pv sector (with_all pv sector)
    published_after = (inr all_there.0, λ no. (all_there.1 no, all_there.0))

  -- all sectors read as the old one in the base
  module _ (base : Image) (olds : (pv sector : ℕ) → Old pv sector (base pv sector)) where
    abbrev batches : List (List Put)
    batches = texts ∷ headers ∷ publish ∷ []

    abbrev AllOld : Image → Type 0
    AllOld image = (pv sector : ℕ) → Old pv sector (image pv sector)

    abbrev AllPublished : Image → Type 0
    AllPublished image = (pv sector : ℕ) → Published Header Old New pv sector (image pv sector)

    -- once all is written, each reads as the new one
    pub all_new : (pv sector : ℕ) → New pv sector (with_batches batches base pv sector)
    all_new pv sector = (all_there base pv sector (olds pv sector)).0

    by_count : (image : Image) (count : ℕ) → ((pv sector : ℕ)
        → (image pv sector ≡ with_batches (take count batches) base pv sector)
        ⊎ (image pv sector ≡ with_batches (take (suc count) batches) base pv sector))
        → AllOld image ⊎ AllPublished image
    by_count image zero h = inl (λ pv sector.
        ⊎_elim (λ e. subst (Old pv sector) (sym e) (olds pv sector))
        (λ e. subst (Old pv sector) (sym e) (texts_there base pv sector (olds pv sector)).0) (h pv sector))
    by_count image (suc zero) h = inl (λ pv sector.
        ⊎_elim (λ e. subst (Old pv sector) (sym e) (texts_there base pv sector (olds pv sector)).0)
        (λ e. subst (Old pv sector) (sym e) (headers_there base pv sector (olds pv sector)).0) (h pv sector))
    by_count image (suc (suc zero)) h = inr (λ pv sector.
        ⊎_elim
        (λ e. subst (Published Header Old New pv sector) (sym e) (published_before base pv sector (olds pv sector)))
        (λ e. subst (Published Header Old New pv sector) (sym e) (published_after base pv sector (olds pv sector)))
        (h pv sector))
    by_count image (suc (suc (suc count))) h = inr (λ pv sector.
        let whole : (n : ℕ) → 3 ≤ n → with_batches (take n batches) base pv sector ≡ with_batches batches base pv sector =
        λ n most. ap (λ (l : List (List Put)). with_batches l base pv sector) (take_all n batches most) in
        let e : image pv sector ≡ with_batches batches base pv sector =
        ⊎_elim (λ x. x ∙ whole (suc (suc (suc count))) (omega arith)) (λ x. x ∙ whole (suc (suc (suc (suc count)))) (omega arith))
        (h pv sector) in
        subst (Published Header Old New pv sector) (sym e) (published_after base pv sector (olds pv sector)))

    -- in every image on the way each reads as the old one, or each as it does since the headers are published
    pub in_turn : (image : Image) → HasFirstBatches batches base image → AllOld image ⊎ AllPublished image
    in_turn image h = by_count image h.count h.either

    -- before the headers are published each reads as the old one
    unpublished_by : (image : Image) (count : ℕ)
        → ((pv sector : ℕ) → (image pv sector ≡ with_batches (take count (texts ∷ headers ∷ [])) base pv sector)
        ⊎ (image pv sector ≡ with_batches (take (suc count) (texts ∷ headers ∷ [])) base pv sector)) → AllOld image
    unpublished_by image zero h pv sector =
        ⊎_elim (λ e. subst (Old pv sector) (sym e) (olds pv sector))
        (λ e. subst (Old pv sector) (sym e) (texts_there base pv sector (olds pv sector)).0) (h pv sector)
    unpublished_by image (suc zero) h pv sector =
        ⊎_elim (λ e. subst (Old pv sector) (sym e) (texts_there base pv sector (olds pv sector)).0)
        (λ e. subst (Old pv sector) (sym e) (headers_there base pv sector (olds pv sector)).0) (h pv sector)
    unpublished_by image (suc (suc count)) h pv sector =
        let whole : (n : ℕ) → 2 ≤ n → with_batches (take n (texts ∷ headers ∷ [])) base pv sector
        ≡ with_batches (texts ∷ headers ∷ []) base pv sector =
        λ n most. ap (λ (l : List (List Put)). with_batches l base pv sector) (take_all n (texts ∷ headers ∷ []) most) in
        let e : image pv sector ≡ with_batches (texts ∷ headers ∷ []) base pv sector =
        ⊎_elim (λ x. x ∙ whole (suc (suc count)) (omega arith)) (λ x. x ∙ whole (suc (suc (suc count))) (omega arith)) (h pv sector) in
        subst (Old pv sector) (sym e) (headers_there base pv sector (olds pv sector)).0

    pub unpublished : (image : Image) → HasFirstBatches (texts ∷ headers ∷ []) base image → AllOld image
    unpublished image h = unpublished_by image h.count h.either
