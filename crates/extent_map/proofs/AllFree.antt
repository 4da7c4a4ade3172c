-- The free runs of all volumes, one after the other.
use Rattle.std.proofs.Common.{◌≡◌, ◌≢◌, ℕ, zero, suc, ◌+◌, ◌<◌, ◌⊎◌, List, [], ◌∷◌, ◌++◌, length, map, Some, inl, inr, refl, sym, ap, subst}
use Rattle.std.proofs.Common.{◌∙◌, arith, ⊎_elim}
use Rattle.std.specs.Prelude.{Vec, slice_get, slice_index_or, slice_set}
use Rattle.std.specs.List.{range_with_len}
use Rattle.std.proofs.lemmas.List.{length_push}
use Rattle.std.proofs.lemmas.List.FromFn.{get_or-map-range_with_len, length-map-range_with_len}
use Rattle.std.proofs.lemmas.Option.{none-some, same_Some, slice_get-get_or}
use Rattle.meta_model.specs.declared.group.Group.{Group}
use Rattle.meta_model.specs.declared.extent_span.ExtentSpan.{ExtentSpan}
use Rattle.extent_map.specs.ByVolume.{lists_of}
use Rattle.extent_map.specs.FreeRuns.{AreFreeRuns}
use Rattle.extent_map.specs.declared.extent_run.ExtentRun.{ExtentRun}

-- those of so many volumes
pub record AreFreeBelow (group : Group) (count : ℕ) (all : List (List ExtentRun)) : Type 0 where
  pub long : length all ≡ count
  pub each : (pv : ℕ) (runs : List ExtentRun) → slice_get all pv ≡ Some runs → AreFreeRuns group pv runs

-- what stands in a list with one more item
found_in_more : {X : Type 0} (xs : List X) (x y : X) (k : ℕ) → slice_get (xs ++ x ∷ []) k ≡ Some y
    → (slice_get xs k ≡ Some y) ⊎ ((k ≡ length xs) × (x ≡ y))
found_in_more [] x y zero is = inr (refl, same_Some x y is)
found_in_more [] x y (suc k) is = absurd (none-some y is)
found_in_more (first ∷ xs) x y zero is = inl is
found_in_more (first ∷ xs) x y (suc k) is = ⊎_elim (λ old. inl old) (λ last. inr (ap suc last.0, last.1)) (found_in_more xs x y k is)

-- one more
pub free_more : (group : Group) (count : ℕ) (all : List (List ExtentRun)) (runs : List ExtentRun) → AreFreeBelow group count all
    → AreFreeRuns group count runs → AreFreeBelow group (count + 1) (all ++ runs ∷ [])
free_more group count all runs free next = record {
  long = length_push all runs ∙ ap (λ n. n + 1) free.long;
  each = λ pv some is.
      ⊎_elim (free.each pv some)
      (λ last. subst (AreFreeRuns group pv) last.1 (subst (λ n. AreFreeRuns group n runs) (sym (last.0 ∙ free.long)) next))
      (found_in_more all runs some pv is);
}

-- what a bucket has
pub bucket_has : {Z : Type 0} (buckets : List (Vec ExtentSpan Z)) (k : ℕ) (bucket : Vec ExtentSpan Z) (runs : List ExtentSpan)
    → slice_get (lists_of buckets) k ≡ Some runs → bucket ≡ slice_index_or buckets k bucket → bucket.items ≡ runs
bucket_has [] k bucket runs is at = absurd (none-some runs is)
bucket_has (first ∷ buckets) zero bucket runs is at = ap (λ v. v.items) at ∙ same_Some first.items runs is
bucket_has (first ∷ buckets) (suc k) bucket runs is at = bucket_has buckets k bucket runs is at

-- the others are as they were where one was put in order
pub others_stay : {Z : Type 0} (buckets : List (Vec ExtentSpan Z)) (k n : ℕ) (bucket : Vec ExtentSpan Z) → n ≢ k
    → slice_get (lists_of (slice_set buckets k bucket)) n ≡ slice_get (lists_of buckets) n
others_stay [] k n bucket other = refl
others_stay (first ∷ buckets) zero zero bucket other = absurd (other refl)
others_stay (first ∷ buckets) zero (suc n) bucket other = refl
others_stay (first ∷ buckets) (suc k) zero bucket other = refl
others_stay (first ∷ buckets) (suc k) (suc n) bucket other = others_stay buckets k n bucket (λ same. other (ap suc same))

-- what each volume has
pub row_of : {X : Type 0} (f : ℕ → X) (count pv : ℕ) → pv < count → slice_get (map f (range_with_len 0 count)) pv ≡ Some (f pv)
row_of f count pv lt =
    slice_get-get_or (map f (range_with_len 0 count)) pv (f pv) (omega (arith, lt, length-map-range_with_len f 0 count))
    ∙ ap (λ x. Some x) (get_or-map-range_with_len f 0 count pv pv (f pv) lt (let e : 0 + pv ≡ pv = omega arith in e))
