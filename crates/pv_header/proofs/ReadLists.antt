-- A list of areas is read pair by pair.
use Rattle.std.proofs.Common.{◌≡◌, ◌≢◌, ℕ, ◌+◌, ◌*◌, ◌<◌, ◌≤◌, Some, List, [], ◌∷◌, ◌++◌, length, refl, sym, ap, subst, ◌∙◌, arith}
use Rattle.std.proofs.Common.{below_more, inl, inr}
use Rattle.std.proofs.lemmas.Bool.{cases_lt}
use Rattle.std.proofs.lemmas.List.{length_push, get_or_append_left, get_or_push}
use Rattle.std.proofs.lemmas.List.Elements.{All-nil, All-push}
use Rattle.std.proofs.lemmas.Option.{slice_get-get_or, get_or_from_slice_get}
use Rattle.std.specs.List.{All, slice_get}
use Rattle.sector_base.specs.Fields.{field}
use Rattle.pv_header.specs.declared.extent_list.Extent.{Extent}
use Rattle.pv_header.specs.Extents.{IsListAt, IsUnended, extent_at}

abbrev pub no_extent : Extent
no_extent = record { offset = 0; size = 0 }

-- these are the first areas of the list that begins at the place
pub record BeginsList (sector : List ℕ) (at : ℕ) (list : List Extent) : Type 0 where
  pub pairs : (k : ℕ) → k < length list → slice_get list k ≡ Some (extent_at sector (at + 16 * k))
  pub offsets : All (λ area. area.offset ≢ 0) list

pub BeginsList-none : (sector : List ℕ) (at : ℕ) → BeginsList sector at []
BeginsList-none sector at = record { pairs = λ k h. absurd (omega arith); offsets = All-nil (λ (area : Extent). area.offset ≢ 0) }

extent_at-is : (sector : List ℕ) (place offset size : ℕ) → offset ≡ field 8 sector place → size ≡ field 8 sector (place + 8)
    → record { offset = offset; size = size } ≡ extent_at sector place
unfolding extent_at
extent_at-is sector place offset size o s = λ i. record { offset = o i; size = s i }

pub BeginsList-more : (sector : List ℕ) (at place offset size : ℕ) (list : List Extent) → BeginsList sector at list
    → place ≡ at + 16 * length list
    → offset ≡ field 8 sector place → size ≡ field 8 sector (place + 8) → offset ≢ 0
    → BeginsList sector at (list ++ record { offset = offset; size = size } ∷ [])
BeginsList-more sector at place offset size list begins p o s goes_on =
    let area : Extent = record { offset = offset; size = size } in
    let all = list ++ area ∷ [] in
    let P : ℕ → Type 0 = λ k. slice_get all k ≡ Some (extent_at sector (at + 16 * k)) in
    let before : (k : ℕ) → k < length list → P k = λ k h.
    slice_get-get_or all k no_extent (omega (arith, length_push list area)) ∙ ap Some (get_or_append_left list (area ∷ []) no_extent k h)
    ∙ sym (slice_get-get_or list k no_extent h) ∙ begins.pairs k h in
    let here : P (length list) =
    slice_get-get_or all (length list) no_extent (omega (arith, length_push list area))
    ∙ ap Some (get_or_push list area no_extent (length list) refl)
    ∙ ap Some (extent_at-is sector place offset size o s ∙ ap (extent_at sector) p) in
    record {
      pairs = λ k h. below_more P (length list) before here k (omega (arith, length_push list area));
      offsets = All-push (λ (area : Extent). area.offset ≢ 0) list area begins.offsets goes_on;
    }

-- no pair that was read ends the list
pub BeginsList-goes_on : (sector : List ℕ) (at : ℕ) (list : List Extent) → BeginsList sector at list → (k : ℕ) → k < length list
    → field 8 sector (at + 16 * k) ≢ 0
unfolding extent_at
BeginsList-goes_on sector at list begins k h e =
    begins.offsets k no_extent h (ap (λ (area : Extent). area.offset)
    (get_or_from_slice_get list k (extent_at sector (at + 16 * k)) no_extent (begins.pairs k h)) ∙ e)

-- the list ends where a 0 stands for an offset
pub IsListAt-ended : (sector : List ℕ) (at place : ℕ) (list : List Extent) → BeginsList sector at list → place ≡ at + 16 * length list
    → place + 8 ≤ 512
    → field 8 sector place ≡ 0 → IsListAt sector at list
IsListAt-ended sector at place list begins p room e = record {
  within = omega arith;
  pairs = begins.pairs;
  offsets = begins.offsets;
  ended = subst (λ n. field 8 sector n ≡ 0) p e;
}

-- the sector ends before the list does
pub IsUnended-past : (sector : List ℕ) (at place : ℕ) (list : List Extent) → BeginsList sector at list → place ≡ at + 16 * length list
    → 512 < place + 8 → IsUnended sector at
IsUnended-past sector at place list begins p past k room = BeginsList-goes_on sector at list begins k (omega arith)

pub IsUnended-cut : (sector : List ℕ) (at place : ℕ) (list : List Extent) → BeginsList sector at list → place ≡ at + 16 * length list
    → 512 < place + 16
    → field 8 sector place ≢ 0 → IsUnended sector at
IsUnended-cut sector at place list begins p past goes_on k room =
    elim (cases_lt k (length list)) [
      | inl h ↦ BeginsList-goes_on sector at list begins k h
      | inr h ↦ let e : place ≡ at + 16 * k = omega arith in subst (λ n. field 8 sector n ≢ 0) e goes_on
    ]
