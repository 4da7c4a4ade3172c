-- The sectors of a text, which are read as one span or two.
use Rattle.std.proofs.Common.{◌≡◌, ◌<◌, ◌≤◌, ℕ, ◌+◌, ◌-◌, ◌/◌, ◌++◌, List, [], ◌∷◌, length, slice_index_or, Option, Some, IfSome, inl, inr}
use Rattle.std.proofs.Common.{refl, sym, ap, subst, ◌∙◌, arith, length-append}
use Rattle.std.specs.Option.{option_map_or}
use Rattle.std.proofs.lemmas.Bool.{cases_lt}
use Rattle.std.proofs.lemmas.Bool.Decides.{nat_tests}
use Rattle.std.proofs.lemmas.List.{get_or-append_right, get_or_append_left}
use Rattle.sector_base.specs.declared.spans.Span.{Span}
use Rattle.mda_header.specs.declared.header.Locn.{Locn}
use Rattle.mda_ring.specs.declared.area.Area.{Area}
use Rattle.mda_ring.specs.Ring.{ring_sector, touched_count}
use Rattle.mda_ring.specs.RingSpans.{IsInArea, nth_sector, ring_spans, spans_count}
use Rattle.disk_model.specs.State.{State}
use Rattle.disk_contents.specs.declared.read_refusal.ReadRefusal.{ReadRefusal}
use Rattle.vg_scan.specs.Texts.{AreTextSectors, text_spans}
use Rattle.disk_contents.specs.Parts.{ReadsUntil, ReadsWell}
use Rattle.disk_contents.proofs.ReadingParts.{until_after, until_sooner, well_both}

-- the spans have the sectors that the text touches, in the order of its bytes
pub record AreSpansOf (area : Area) (locn : Locn) (spans : Span × Option Span) : Type 0 where
  pub count_is : spans_count spans ≡ touched_count area.size locn.offset locn.size
  pub order : (k : ℕ) → k < touched_count area.size locn.offset locn.size
      → nth_sector spans k ≡ area.start / 512 + ring_sector area.size locn.offset k

-- the span was read
abbrev pub IsSpanRead : Span → List (List ℕ) → (ℕ → List ℕ) → Type 0
IsSpanRead span sectors sector_at = (k : ℕ) → k < span.count → slice_index_or sectors k [] ≡ sector_at (span.first + k)

nth-first : (first : Span) (rest : Option Span) (k : ℕ) → k < first.count → nth_sector (first, rest) k ≡ first.first + k
nth-first first rest k lt = grind (arith, nat_tests)

nth-rest : (first rest : Span) (k : ℕ) → first.count ≤ k → nth_sector (first, Some rest) k ≡ rest.first + (k - first.count)
nth-rest first rest k le = grind (arith, nat_tests)

-- two were read
pub read_joined : (area : Area) (locn : Locn) (first rest : Span) (sectors more all : List (List ℕ))
    → AreSpansOf area locn (first, Some rest) → length sectors ≡ first.count → length more ≡ rest.count → all ≡ sectors ++ more
    → (sector_at : ℕ → List ℕ) → IsSpanRead first sectors sector_at → IsSpanRead rest more sector_at
    → AreTextSectors sector_at area locn all
read_joined area locn first rest sectors more all spans long long' joined sector_at read read' = record { read = record { each = each } }
  where
    count : first.count + rest.count ≡ touched_count area.size locn.offset locn.size
    count = spans.count_is

    each : (k : ℕ) → k < length all → slice_index_or all k [] ≡ sector_at (area.start / 512 + ring_sector area.size locn.offset k)
    each k lt =
        let whole : length all ≡ length sectors + length more = ap length joined ∙ length-append sectors more in
        elim (cases_lt k (length sectors)) [
          | inl low ↦
              ap (λ (l : List (List ℕ)). slice_index_or l k []) joined
              ∙ get_or_append_left sectors more [] k low
              ∙ read k (omega arith)
              ∙ ap sector_at (sym (nth-first first (Some rest) k (omega arith)) ∙ spans.order k (omega arith))
          | inr high ↦
              ap (λ (l : List (List ℕ)). slice_index_or l k []) joined
              ∙ get_or-append_right sectors more (length sectors) k [] refl high
              ∙ read' (k - length sectors) (omega arith)
              ∙ ap sector_at (ap (λ (n : ℕ). rest.first + (k - n)) long ∙ sym (nth-rest first rest k (omega arith))
              ∙ spans.order k (omega arith))
        ]

-- ---- the parts of the call

abbrev spans_of : Span × Option Span → List Span
spans_of spans = spans.0 ∷ option_map_or (λ span. span ∷ []) spans.1 []

rest_of : (spans : Span × Option Span) (rest : Span) → spans.1 ≡ Some rest → (spans.0 ∷ []) ++ (rest ∷ []) ≡ spans_of spans
rest_of spans rest is = ap (λ (o : Option Span). spans.0 ∷ option_map_or (λ span. span ∷ []) o []) (sym is)

-- the span is of the area's disk
pub in_area_rest : (area : Area) (rest : Option Span) (span : Span) → rest ≡ Some span → IfSome rest (IsInArea area) → span.pv ≡ area.pv
in_area_rest area rest span is lies = (subst (λ (o : Option Span). IfSome o (IsInArea area)) is lies).pv_is

module _ (area : Area) (locn : Locn) (spans : Span × Option Span) (are : spans ≡ ring_spans area locn.offset locn.size)
    (old mid new : State) where
  -- the first span's read ended the call
  pub first_ended : (refusal : ReadRefusal) → spans.0.pv ≡ area.pv → ReadsUntil spans.0.pv old (spans.0 ∷ []) new refusal
      → ReadsUntil area.pv old (text_spans area locn) new refusal
  first_ended refusal pv until =
      until_sooner area.pv old new (spans.0 ∷ []) (option_map_or (λ span. span ∷ []) spans.1 []) (text_spans area locn) refusal
      (ap spans_of are) (subst (λ (p : ℕ). ReadsUntil p old (spans.0 ∷ []) new refusal) pv until)

  -- both were read
  pub both_read : (rest : Span) → spans.1 ≡ Some rest → ReadsWell old (spans.0 ∷ []) mid → ReadsWell mid (rest ∷ []) new
      → ReadsWell old (text_spans area locn) new
  both_read rest is a b =
      subst (λ (l : List Span). ReadsWell old l new) (rest_of spans rest is ∙ ap spans_of are)
      (well_both old mid new (spans.0 ∷ []) (rest ∷ []) a b)

  -- the second span's read ended it
  pub rest_ended : (rest : Span) (refusal : ReadRefusal) → spans.1 ≡ Some rest → rest.pv ≡ area.pv → ReadsWell old (spans.0 ∷ []) mid
      → ReadsUntil rest.pv mid (rest ∷ []) new refusal → ReadsUntil area.pv old (text_spans area locn) new refusal
  rest_ended rest refusal is pv a until =
      subst (λ (l : List Span). ReadsUntil area.pv old l new refusal) (rest_of spans rest is ∙ ap spans_of are)
      (until_after area.pv old mid new (spans.0 ∷ []) (rest ∷ []) refusal a
      (subst (λ (p : ℕ). ReadsUntil p mid (rest ∷ []) new refusal) pv until))
