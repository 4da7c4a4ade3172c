-- The last segment of a volume, and those behind it.
use Rattle.std.proofs.Common.{◌≡◌, ◌<◌, ℕ, zero, suc, ◌+◌, ◌-◌, ◌^◌, List, [], ◌∷◌, ◌++◌, length, map, take, Some, None, inl, inr, sym, ap}
use Rattle.std.proofs.Common.{subst, ◌∙◌, arith}
use Rattle.std.specs.Prelude.{slice_get}
use Rattle.std.proofs.lemmas.List.{map-append}
use Rattle.std.proofs.lemmas.Option.{same_Some, slice_get_cases, slice_get_within}
use Rattle.meta_model.proofs.TableLemmas.{take-next}
use Rattle.meta_model.specs.declared.lv.Lv.{Lv}
use Rattle.meta_model.specs.declared.segment.SegKind.{SegKind}
use Rattle.meta_model.specs.declared.segment.Segment.{Segment}
use Rattle.extent_alloc.specs.declared.part.Part.{Part}
use Rattle.vg_check.proofs.Ends.{last_at}
use Rattle.volume_rules.specs.Extents.{extents_of}
use Rattle.group_edits.proofs.GivenRules.{extents_both}
use Rattle.group_edits.specs.GivenSegments.{extents_in, segments_of}
use Rattle.group_edits.specs.LongerVolume.{CanBeLonger, last_kind, longer}
use Rattle.group_edits.specs.NextVersion.{changed_if}

kind_at : (segments : List Segment) (k : ℕ) (last : Segment) → k + 1 ≡ length segments → slice_get segments k ≡ Some last
    → last_kind segments ≡ last.kind
kind_at [] k last is at = absurd cc
kind_at (s ∷ []) zero last is at = ap (λ (s : Segment). s.kind) (same_Some s last at)
kind_at (s ∷ []) (suc k) last is at = absurd cc
kind_at (s ∷ t ∷ segments) zero last is at = absurd (omega (arith, is))
kind_at (s ∷ t ∷ segments) (suc k) last is at = kind_at (t ∷ segments) k last (omega (arith, is)) at

module _ (lv : Lv) (given : List Part) (can : CanBeLonger given lv) (found : List Segment) (same : found ≡ lv.segments) (last : Segment)
    (at : slice_get found (length found - 1) ≡ Some last) where
  kind_is : last_kind lv.segments ≡ last.kind
  kind_is =
      let there : slice_get lv.segments (length lv.segments - 1) ≡ Some last =
      subst (λ (xs : List Segment). slice_get xs (length xs - 1) ≡ Some last) same at in
      let within : length lv.segments - 1 < length lv.segments = slice_get_within lv.segments (length lv.segments - 1) last there in
      kind_at lv.segments (length lv.segments - 1) last (omega (arith, within)) there

  end_is : last.start + last.count ≡ extents_of lv
  end_is = last_at found lv.segments last same at can.follow

  abbrev Fits : ℕ → Type 0
  Fits n = n < 2 ^ 64

  pub added_fits : last.start + last.count + extents_in (segments_of last.kind (last.start + last.count) given) < 2 ^ 64
  added_fits =
      subst (λ (n : ℕ). Fits (n + extents_in (segments_of last.kind n given))) (sym end_is)
      (subst (λ (k : SegKind). Fits (extents_of lv + extents_in (segments_of k (extents_of lv) given))) kind_is
      (subst Fits (extents_both lv.segments (segments_of (last_kind lv.segments) (extents_of lv) given)) can.fits))

  pub added_is : (copies all : List Segment) → copies ≡ lv.segments → all ≡ copies ++ segments_of last.kind (last.start + last.count) given
      → all ≡ (longer given lv).segments
  added_is copies all copied is =
      is
      ∙ ap (λ (xs : List Segment). xs ++ segments_of last.kind (last.start + last.count) given) copied
      ∙ ap (λ (n : ℕ). lv.segments ++ segments_of last.kind n given) end_is
      ∙ ap (λ (k : SegKind). lv.segments ++ segments_of k (extents_of lv) given) (sym kind_is)

-- there is a last one
pub no_last : (lv : Lv) (given : List Part) → CanBeLonger given lv → (found : List Segment) → found ≡ lv.segments
    → slice_get found (length found - 1) ≡ None → ⊥
no_last lv given can found same none =
    elim (slice_get_cases lv.segments (length lv.segments - 1)).1 [
      | inl some ↦ is_some some.0 (sym some.2 ∙ there)
      | inr past ↦ let least = can.some in let far = past.0 in omega (arith, least, far)
    ]
  where
    there : slice_get lv.segments (length lv.segments - 1) ≡ None
    there = subst (λ (xs : List Segment). slice_get xs (length xs - 1) ≡ None) same none

    is_some : (x : Segment) → Some x ≡ None → ⊥
    is_some x is = absurd cc

-- one row more
pub next_changed : (name : List ℕ) (change : List ℕ × Lv → List ℕ × Lv) (lvs all later : List (List ℕ × Lv)) (n : ℕ) (own copy : List ℕ)
    (lv next : Lv) → all ≡ map (changed_if name change) (take n lvs) → slice_get lvs n ≡ Some (own, lv)
    → (own, next) ≡ changed_if name change (own, lv) → copy ≡ own → later ≡ all ++ (copy, next) ∷ []
    → later ≡ map (changed_if name change) (take (n + 1) lvs)
next_changed name change lvs all later n own copy lv next so_far there is same pushed =
    pushed
    ∙ ap (λ (rows : List (List ℕ × Lv)). rows ++ (copy, next) ∷ []) so_far
    ∙ ap (λ (row : List ℕ × Lv). map (changed_if name change) (take n lvs) ++ row ∷ []) (ap (λ (x : List ℕ). (x, next)) same ∙ is)
    ∙ sym (map-append (changed_if name change) (take n lvs) ((own, lv) ∷ []))
    ∙ ap (map (changed_if name change)) (sym (take-next lvs n (own, lv) there))
