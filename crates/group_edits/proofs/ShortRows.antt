-- The rows of a group in which a volume has its first extents alone, one after another, and its segments.
use Rattle.std.proofs.Common.{◌≡◌, ◌≢◌, ◌≤◌, ◌<◌, ℕ, zero, suc, ◌+◌, ◌-◌, Bool, true, false, cond, List, [], ◌∷◌, ◌++◌, drop, get_or}
use Rattle.std.proofs.Common.{length, map, take, Some, refl, sym, ap, ◌∙◌, arith}
use Rattle.std.specs.Prelude.{if◌then◌else◌, min, nat_le, slice_get}
use Rattle.std.proofs.lemmas.List.{append_assoc, map-append}
use Rattle.std.specs.Str.{bytes_eq}
use Rattle.meta_model.proofs.TableLemmas.{take-next}
use Rattle.meta_model.specs.declared.lv.Lv.{Lv}
use Rattle.meta_model.specs.declared.segment.Segment.{Segment}
use Rattle.list_laws.proofs.Walks.{next_read}
use Rattle.group_edits.proofs.ShortFront.{cut, le_by, lt_by}
use Rattle.group_edits.specs.NextVersion.{changed_if}
use Rattle.group_edits.specs.ShortenedVolume.{front_of, shortened}

-- ---- segments

front_none : (segments : List Segment) → front_of segments 0 ≡ []
front_none [] = refl
front_none (segment ∷ segments) = refl

front_step : (segment : Segment) (segments : List Segment) (left : ℕ) → left ≢ 0
    → front_of (segment ∷ segments) left ≡ cut segment (min segment.count left) ∷ front_of segments (left - min segment.count left)
front_step segment segments zero some = absurd (some refl)
front_step segment segments (suc n) some = by (nat_le (suc n) segment.count) refl where
  by : (b : Bool) → nat_le (suc n) segment.count ≡ b
      → cond b (cut segment (suc n) ∷ []) (segment ∷ front_of segments (suc n - segment.count))
      ≡ cut segment (min segment.count (suc n)) ∷ front_of segments (suc n - min segment.count (suc n))
  by true is =
      let less : suc n ≤ segment.count = le_by (suc n) segment.count is in
      let all : min segment.count (suc n) ≡ suc n = omega (arith, less) in
      let none : suc n - min segment.count (suc n) ≡ 0 = omega (arith, all) in
      sym (ap (λ (k : ℕ). cut segment k ∷ front_of segments (suc n - min segment.count (suc n))) all
      ∙ ap (λ (k : ℕ). cut segment (suc n) ∷ front_of segments k) none
      ∙ ap (λ (rest : List Segment). cut segment (suc n) ∷ rest) (front_none segments))
  by false is =
      let less : segment.count < suc n = lt_by (suc n) segment.count is in
      let all : min segment.count (suc n) ≡ segment.count = omega (arith, less) in
      sym (ap (λ (k : ℕ). cut segment k ∷ front_of segments (suc n - k)) all)

-- one segment more
pub next_front : (segments front later : List Segment) (count i left taken : ℕ) (segment copy : Segment)
    → front_of segments count ≡ front ++ front_of (drop i segments) left → i < length segments → segment ≡ get_or segments i segment
    → left ≢ 0
    → copy ≡ cut segment (min segment.count left) → later ≡ front ++ copy ∷ [] → taken ≡ min segment.count left
    → front_of segments count ≡ later ++ front_of (drop (i + 1) segments) (left - taken)
next_front segments front later count i left taken segment copy so_far within at some is pushed same =
    let rest : List Segment = front_of (drop (i + 1) segments) (left - min segment.count left) in
    so_far
    ∙ ap (λ (s : List Segment). front ++ front_of s left) (next_read segments i segment within at)
    ∙ ap (λ (s : List Segment). front ++ s) (front_step segment (drop (i + 1) segments) left some)
    ∙ ap (λ (c : Segment). front ++ (c ∷ rest)) (sym is)
    ∙ sym (append_assoc front (copy ∷ []) rest)
    ∙ ap (λ (f : List Segment). f ++ rest) (sym pushed)
    ∙ ap (λ (n : ℕ). later ++ front_of (drop (i + 1) segments) (left - n)) (sym same)

-- ---- rows

module _ (name : List ℕ) (left : ℕ) where
  abbrev short : List ℕ × Lv → List ℕ × Lv
  short row = changed_if name (λ (r : List ℕ × Lv). (r.0, shortened left r.1)) row

  row_is : (own copied : List ℕ) (lv copy : Lv) → copied ≡ own → copy ≡ (if bytes_eq own name then shortened left lv else lv)
      → (copied, copy) ≡ short (own, lv)
  row_is own copied lv copy same is = ap (λ (n : List ℕ). (n, copy)) same ∙ ap (λ (v : Lv). (own, v)) is ∙ by (bytes_eq own name) where
    by : (b : Bool) → ◌≡◌ {A = List ℕ × Lv} (own, cond b (shortened left lv) lv) (cond b (own, shortened left lv) (own, lv))
    by true = refl
    by false = refl

  -- one row more
  pub next_short : (lvs all later : List (List ℕ × Lv)) (n : ℕ) (own copied : List ℕ) (lv copy : Lv) → all ≡ map short (take n lvs)
      → slice_get lvs n ≡ Some (own, lv)
      → copied ≡ own → copy ≡ (if bytes_eq own name then shortened left lv else lv) → later ≡ all ++ (copied, copy) ∷ []
      → later ≡ map short (take (n + 1) lvs)
  next_short lvs all later n own copied lv copy so_far there same is pushed =
      pushed
      ∙ ap (λ (rows : List (List ℕ × Lv)). rows ++ (copied, copy) ∷ []) so_far
      ∙ ap (λ (row : List ℕ × Lv). map short (take n lvs) ++ row ∷ []) (row_is own copied lv copy same is)
      ∙ sym (map-append short (take n lvs) ((own, lv) ∷ []))
      ∙ ap (map short) (sym (take-next lvs n (own, lv) there))
