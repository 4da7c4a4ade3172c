-- What stands in a sector of an image on the way of some batches: what the base has there, or what one of them writes.
use Rattle.std.proofs.Common.{◌≡◌, ◌⊎◌, ℕ, zero, suc, true, List, [], ◌∷◌, ◌++◌, map, take, inl, inr, ⊎_elim, refl, sym, subst, ◌∙◌}
use Rattle.std.specs.List.{list_any}
use Rattle.std.proofs.lemmas.Bool.{or_left, or_right}
use Rattle.sector_base.specs.Spans.{covers}
use Rattle.disk_model.specs.Steps.{Image}
use Rattle.disk_batch.specs.InTurn.{HasFirstBatches, Put, with_batches, with_writes}
use Rattle.disk_batch.specs.Writes.{IsWrittenBy}
use Rattle.disk_batch.proofs.WritesOnImages.{written_or_kept}
use Rattle.change_batches.specs.Batches.{batch_if}

-- one of the batches writes this value to the sector
abbrev pub AnyWrites : List (List Put) → ℕ → ℕ → List ℕ → Type 0
AnyWrites [] pv sector value = ⊥
AnyWrites (batch ∷ batches) pv sector value = IsWrittenBy batch pv sector value ⊎ AnyWrites batches pv sector value

pub batches_or : (batches : List (List Put)) (base : Image) (pv sector : ℕ)
    → (with_batches batches base pv sector ≡ base pv sector) ⊎ AnyWrites batches pv sector (with_batches batches base pv sector)
batches_or [] base pv sector = inl refl
batches_or (batch ∷ batches) base pv sector =
    ⊎_elim
    (λ kept.
    ⊎_elim
    (λ same. inl (kept ∙ same.0))
    (λ by. inr (inl (subst (IsWrittenBy batch pv sector) (sym kept) by)))
    (written_or_kept batch base pv sector))
    (λ later. inr (inr later))
    (batches_or batches (with_writes batch base) pv sector)

of_take : (n : ℕ) (batches : List (List Put)) (pv sector : ℕ) (value : List ℕ) → AnyWrites (take n batches) pv sector value
    → AnyWrites batches pv sector value
of_take zero [] pv sector value h = absurd h
of_take zero (batch ∷ batches) pv sector value h = absurd h
of_take (suc n) [] pv sector value h = absurd h
of_take (suc n) (batch ∷ batches) pv sector value (inl here) = inl here
of_take (suc n) (batch ∷ batches) pv sector value (inr later) = inr (of_take n batches pv sector value later)

pub front_or : (batches : List (List Put)) (base image : Image) (pv sector : ℕ) → HasFirstBatches batches base image
    → (image pv sector ≡ base pv sector) ⊎ AnyWrites batches pv sector (image pv sector)
front_or batches base image pv sector h = ⊎_elim (of h.count) (of (suc h.count)) (h.either pv sector)
  where
    of : (n : ℕ) → image pv sector ≡ with_batches (take n batches) base pv sector
        → (image pv sector ≡ base pv sector) ⊎ AnyWrites batches pv sector (image pv sector)
    of n is =
        ⊎_elim
        (λ same. inl (is ∙ same))
        (λ by. inr (of_take n batches pv sector (image pv sector) (subst (AnyWrites (take n batches) pv sector) (sym is) by)))
        (batches_or (take n batches) base pv sector)

pub any_append : (first more : List (List Put)) (pv sector : ℕ) (value : List ℕ) → AnyWrites (first ++ more) pv sector value
    → AnyWrites first pv sector value ⊎ AnyWrites more pv sector value
any_append [] more pv sector value h = inr h
any_append (batch ∷ first) more pv sector value (inl here) = inl (inl here)
any_append (batch ∷ first) more pv sector value (inr later) =
    ⊎_elim (λ x. inl (inr x)) (λ y. inr y) (any_append first more pv sector value later)

pub any_if : (puts : List Put) (pv sector : ℕ) (value : List ℕ) → AnyWrites (batch_if puts) pv sector value
    → IsWrittenBy puts pv sector value
any_if [] pv sector value h = absurd h
any_if (put ∷ puts) pv sector value (inl here) = here
any_if (put ∷ puts) pv sector value (inr later) = absurd later

-- where each of a list has one write, a sector that is written is covered by the write of one of them
pub written_of : (pv sector : ℕ) {X : Type 0} (put : X → Put) (xs : List X) (value : List ℕ) → IsWrittenBy (map put xs) pv sector value
    → list_any (λ (x : X). covers (put x).0 pv sector) xs ≡ true
written_of pv sector put [] value by = absurd by
written_of pv sector put (x ∷ xs) value (inl here) =
    or_left (covers (put x).0 pv sector) (list_any (λ y. covers (put y).0 pv sector) xs) here.0
written_of pv sector put (x ∷ xs) value (inr later) =
    or_right (covers (put x).0 pv sector) (list_any (λ y. covers (put y).0 pv sector) xs) (written_of pv sector put xs value later)
