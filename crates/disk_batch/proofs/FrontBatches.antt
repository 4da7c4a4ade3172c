-- Batches before others, and what they keep.
use Rattle.std.proofs.Common.{◌≡◌, ◌≤◌, ◌<◌, ◌⊎◌, ℕ, zero, suc, ◌+◌, ◌-◌, false, ◌||◌, Bool, List, [], ◌∷◌, ◌++◌, length, map, take, inl}
use Rattle.std.proofs.Common.{inr, ⊎_elim, refl, ap, subst, ◌∙◌, arith, length-append}
use Rattle.std.specs.Prelude.{All}
use Rattle.std.proofs.Math.Seq.{take-append-add}
use Rattle.std.proofs.lemmas.Bool.{cases_Bool, cases_lt}
use Rattle.std.proofs.lemmas.List.{take-append-le, take_all}
use Rattle.std.proofs.lemmas.List.Elements.{All-head, All-tail, All-take}
use Rattle.sector_base.specs.Spans.{covers}
use Rattle.disk_model.specs.Steps.{Image, IsSame, value_at}
use Rattle.disk_model.specs.Submitting.{writes_at}
use Rattle.disk_batch.specs.Writes.{IsWrittenBy, write_work}
use Rattle.disk_batch.specs.InTurn.{HasFirstBatches, IsEither, Put, with_batches, with_writes}
use Rattle.disk_batch.proofs.InTurn.{batches_append, of_submitted}
use Rattle.disk_batch.proofs.WritesOnImages.{written_kept}

-- an image on the way of some batches and then of more is on the way of the first, or on that of the others over all that
-- the first write
module _ (first more : List (List Put)) (base image : Image) where
  either_of : (a b c d : Image) → a ≡ c → b ≡ d → IsEither a b image → IsEither c d image
  either_of a b c d p q h = subst (λ (i : Image). IsEither i d image) p (subst (λ (i : Image). IsEither a i image) q h)

  early : (n : ℕ) → n ≤ length first → with_batches (take n (first ++ more)) base ≡ with_batches (take n first) base
  early n le = ap (λ (l : List (List Put)). with_batches l base) (take-append-le n first more le)

  late : (n k : ℕ) → k ≡ length first + n → with_batches (take k (first ++ more)) base
      ≡ with_batches (take n more) (with_batches first base)
  late n k e =
      ap (λ (m : ℕ). with_batches (take m (first ++ more)) base) e
      ∙ ap (λ (l : List (List Put)). with_batches l base) (take-append-add first more n)
      ∙ batches_append first (take n more) base

  pub first_or_more : HasFirstBatches (first ++ more) base image
      → HasFirstBatches first base image ⊎ HasFirstBatches more (with_batches first base) image
  first_or_more h =
      ⊎_elim
      (λ (lt : h.count < length first). inl (record {
        count = h.count;
        among = omega (arith, lt);
        either = either_of _ _ _ _ (early h.count (omega (arith, lt))) (early (suc h.count) (omega (arith, lt))) h.either;
      }))
      (λ (le : length first ≤ h.count). inr (record {
        count = h.count - length first;
        among = omega (arith, le, h.among, length-append first more);
        either =
            either_of _ _ _ _ (late (h.count - length first) h.count (omega (arith, le)))
            (late (suc (h.count - length first)) (suc h.count) (omega (arith, le))) h.either;
      }))
      (cases_lt h.count (length first))

-- where the last batch wasn't submitted, an image is on the way of those before it
pub but_last : (batches : List (List Put)) (last : List Put) (n : ℕ) (base image : Image) → n < length (batches ++ last ∷ [])
    → HasFirstBatches (take n (batches ++ last ∷ [])) base image → HasFirstBatches batches base image
but_last batches last n base image less h =
    let le : n ≤ length batches = omega (arith, less, length-append batches (last ∷ [])) in
    of_submitted n batches base image (subst (λ (l : List (List Put)). HasFirstBatches l base image)
    (take-append-le n batches (last ∷ []) le) h)

-- an image on the way of no batch is the base
pub none_front : (base image : Image) → HasFirstBatches [] base image → IsSame image base
none_front base image h pv sector =
    let whole : (n : ℕ) → with_batches (take n []) base pv sector ≡ base pv sector =
    λ n. ap (λ (l : List (List Put)). with_batches l base pv sector) (take_all n [] (omega arith)) in
    ⊎_elim (λ e. e ∙ whole h.count) (λ e. e ∙ whole (suc h.count)) (h.either pv sector)

-- one on the way of one batch has each sector as before it or as after it
pub one_front : (puts : List Put) (base image : Image) → HasFirstBatches (puts ∷ []) base image
    → IsEither base (with_writes puts base) image
one_front puts base image h = by_count h.count h.either
  where
    by_count : (count : ℕ) → IsEither (with_batches (take count (puts ∷ [])) base) (with_batches (take (suc count) (puts ∷ [])) base) image
        → IsEither base (with_writes puts base) image
    by_count zero e = e
    by_count (suc count) e = λ pv sector.
        let whole : (n : ℕ) → 1 ≤ n → with_batches (take n (puts ∷ [])) base pv sector ≡ with_writes puts base pv sector =
        λ n most. ap (λ (l : List (List Put)). with_batches l base pv sector) (take_all n (puts ∷ []) (omega (arith, most))) in
        inr (⊎_elim (λ x. x ∙ whole (suc count) (omega arith)) (λ x. x ∙ whole (suc (suc count)) (omega arith)) (e pv sector))

-- none of the writes covers the sector
abbrev pub KeepsSector : ℕ → ℕ → List Put → Type 0
KeepsSector pv sector puts = writes_at (map write_work puts) pv sector ≡ false

-- where none writes any value to it
pub keeps_sector : (puts : List Put) (pv sector : ℕ) → ((value : List ℕ) → IsWrittenBy puts pv sector value → ⊥)
    → KeepsSector pv sector puts
keeps_sector [] pv sector none = refl
keeps_sector (put ∷ puts) pv sector none =
    ⊎_elim
    (λ is. absurd (none (value_at put.0 put.1 sector) (inl (is, refl))))
    (λ out. ap (λ (b : Bool). b || writes_at (map write_work puts) pv sector) out
    ∙ keeps_sector puts pv sector (λ value by. none value (inr by)))
    (cases_Bool (covers put.0 pv sector))

-- a sector that none of the batches writes is as in the base, once all are written and on the way
pub batches_kept : (batches : List (List Put)) (base : Image) (pv sector : ℕ) → All (KeepsSector pv sector) batches
    → with_batches batches base pv sector ≡ base pv sector
batches_kept [] base pv sector none = refl
batches_kept (puts ∷ batches) base pv sector none =
    batches_kept batches (with_writes puts base) pv sector (All-tail (KeepsSector pv sector) puts batches none)
    ∙ written_kept puts base pv sector (All-head (KeepsSector pv sector) puts batches none)

pub front_kept : (batches : List (List Put)) (base image : Image) (pv sector : ℕ) → All (KeepsSector pv sector) batches
    → HasFirstBatches batches base image → image pv sector ≡ base pv sector
front_kept batches base image pv sector none h =
    let kept : (n : ℕ) → with_batches (take n batches) base pv sector ≡ base pv sector =
    λ n. batches_kept (take n batches) base pv sector (All-take (KeepsSector pv sector) n batches none) in
    ⊎_elim (λ e. e ∙ kept h.count) (λ e. e ∙ kept (suc h.count)) (h.either pv sector)
