-- The three batches of a list of areas make a commit.
use Rattle.std.proofs.Common.{◌≡◌, ◌≤◌, ◌<◌, ◌⊎◌, ℕ, zero, suc, ◌+◌, ◌-◌, ◌/◌, ◌%◌, Bool, true, false, ◌||◌, cond, nat_lt, IsTrue, List, []}
use Rattle.std.proofs.Common.{◌∷◌, ◌++◌, length, map, get_or, Option, None, Some, inl, inr, ⊎_elim, refl, sym, ap, subst, ◌∙◌, arith}
use Rattle.std.specs.Prelude.{All, AllPairs}
use Rattle.std.proofs.lemmas.Bool.{cases_lt, ltb-false, true≢false, or_left, or_right}
use Rattle.std.proofs.lemmas.List.Elements.{All-nil, All-cons}
use Rattle.sector_base.specs.declared.spans.Span.{Span}
use Rattle.sector_base.specs.Spans.{covers}
use Rattle.disk_model.specs.Steps.{value_at}
use Rattle.disk_model.specs.InFlight.{IsAmong}
use Rattle.disk_batch.specs.Writes.{IsWrittenBy}
use Rattle.disk_batch.proofs.InBlocks.{blocks_cover, blocks_written}
use Rattle.mda_header.specs.declared.header.Locn.{Locn}
use Rattle.mda_header.specs.Header.{IsHeader, IsInside}
use Rattle.mda_header.specs.HeaderBytes.{header_bytes}
use Rattle.mda_ring.specs.declared.area.Area.{Area}
use Rattle.mda_ring.specs.Areas.{CanTake, IsArea, LieApart}
use Rattle.mda_ring.specs.Ring.{need, room}
use Rattle.mda_ring.proofs.SpanLaws.{covers_from, covers_tells}
use Rattle.vg_commit.specs.Written.{area_span, area_writes, header_after, header_before, header_of, header_span, headers_of, new_entry}
use Rattle.vg_commit.specs.Written.{publish_of, stored, text_puts, texts_of, whole_texts}
use Rattle.vg_commit.specs.TooLarge.{first_too_large}
use Rattle.vg_commit.specs.Showing.{Names}
use Rattle.vg_commit.specs.SectorReading.{AllRead, HasPart, Reads, new_reading, old_reading}
use Rattle.vg_commit.specs.Commits.{MakeCommit, written_at}
use Rattle.vg_commit.specs.Plans.{HeadersRead}
use Rattle.vg_commit.proofs.AreaPuts.{IsPlaced, IsTextPut, is_placed, put_covers, put_new, put_old, text_covers, text_put}

-- two areas of a list are the same or lie apart
pub same_or_apart : (areas : List (Area × Option Locn)) → AllPairs LieApart areas → (d : Area × Option Locn) (j k : ℕ) → j < length areas
    → k < length areas
    → (get_or areas j d ≡ get_or areas k d) ⊎ (LieApart (get_or areas j d) (get_or areas k d)
    ⊎ LieApart (get_or areas k d) (get_or areas j d))
same_or_apart areas apart d j k in_j in_k =
    elim (cases_lt j k) [
      | inl below ↦ inr (inl (apart j k d below in_k))
      | inr above ↦
          elim (cases_lt k j) [
            | inl over ↦ inr (inr (apart k j d over in_j))
            | inr same ↦ inl (ap (λ (i : ℕ). get_or areas i d) (omega arith))
          ]
    ]

-- areas that lie apart have no sector both
apart_covers : (a b : Area × Option Locn) (pv sector : ℕ) → IsArea a.0 → IsArea b.0 → LieApart a b → covers (area_span a.0) pv sector ≡ true
    → covers (area_span b.0) pv sector ≡ true → ⊥
apart_covers a b pv sector good_a good_b apart in_a in_b =
    let s : (a.0.pv ≡ pv) × (a.0.start / 512 ≤ sector) × (sector < a.0.start / 512 + a.0.size / 512) =
    covers_tells (area_span a.0) pv sector in_a in
    let t : (b.0.pv ≡ pv) × (b.0.start / 512 ≤ sector) × (sector < b.0.start / 512 + b.0.size / 512) =
    covers_tells (area_span b.0) pv sector in_b in
    let whole_a : a.0.start % 512 ≡ 0 = good_a.start_is_whole in
    let whole_b : b.0.start % 512 ≡ 0 = good_b.start_is_whole in
    let size_a : a.0.size % 512 ≡ 0 = good_a.size_is_whole in
    let size_b : b.0.size % 512 ≡ 0 = good_b.size_is_whole in
    elim apart [
      | inl other ↦ other (s.0 ∙ sym t.0)
      | inr here ↦
          elim here [
            | inl before ↦ omega (arith, s.1, s.2, t.1, t.2, before)
            | inr behind ↦ omega (arith, s.1, s.2, t.1, t.2, behind)
          ]
    ]

-- so an area is known by one of its sectors
pub one_area : (areas : List (Area × Option Locn)) → All CanTake areas → AllPairs LieApart areas
    → (d : Area × Option Locn) (j k pv sector : ℕ) → j < length areas → k < length areas
    → covers (area_span (get_or areas j d).0) pv sector ≡ true → covers (area_span (get_or areas k d).0) pv sector ≡ true
    → get_or areas j d ≡ get_or areas k d
one_area areas take apart d j k pv sector in_j in_k at_j at_k =
    elim (same_or_apart areas apart d j k in_j in_k) [
      | inl same ↦ same
      | inr other ↦
          elim other [
            | inl x ↦ absurd (apart_covers (get_or areas j d) (get_or areas k d) pv sector (take j d in_j).0 (take k d in_k).0 x at_j at_k)
            | inr y ↦ absurd (apart_covers (get_or areas k d) (get_or areas j d) pv sector (take k d in_k).0 (take j d in_j).0 y at_k at_j)
          ]
    ]

-- each area has room where none is too small
pub rooms : (text : List ℕ) (areas : List (Area × Option Locn)) → first_too_large text areas ≡ None
    → All (λ (a : Area × Option Locn). need (length text + 1) ≤ room a.0.size a.1) areas
rooms text [] none = All-nil (λ (a : Area × Option Locn). need (length text + 1) ≤ room a.0.size a.1)
rooms text (a ∷ areas) none = step (λ rest. rooms text areas rest) (nat_lt (room a.0.size a.1) (need (length text + 1))) refl none
  where
    step : (first_too_large text areas ≡ None → All (λ (c : Area × Option Locn). need (length text + 1) ≤ room c.0.size c.1) areas)
        → (b : Bool) → nat_lt (room a.0.size a.1) (need (length text + 1)) ≡ b
        → cond b (Some (need (length text + 1), room a.0.size a.1)) (first_too_large text areas) ≡ None
        → All (λ (c : Area × Option Locn). need (length text + 1) ≤ room c.0.size c.1) (a ∷ areas)
    step rest true is h = cc
    step rest false is h =
        All-cons (λ (c : Area × Option Locn). need (length text + 1) ≤ room c.0.size c.1) a areas
        (ltb-false (room a.0.size a.1) (need (length text + 1)) is) (rest h)

-- writes after writes
written_append : (first more : List (Span × List (List ℕ))) (pv sector : ℕ) (value : List ℕ) → IsWrittenBy (first ++ more) pv sector value
    → IsWrittenBy first pv sector value ⊎ IsWrittenBy more pv sector value
written_append [] more pv sector value h = inr h
written_append (put ∷ first) more pv sector value (inl h) = inl (inl h)
written_append (put ∷ first) more pv sector value (inr h) =
    ⊎_elim (λ x. inl (inr x)) (λ y. inr y) (written_append first more pv sector value h)

at_append : (first more : List (Span × List (List ℕ))) (pv sector : ℕ)
    → written_at (first ++ more) pv sector ≡ (written_at first pv sector || written_at more pv sector)
at_append [] more pv sector = refl
at_append (put ∷ first) more pv sector =
    ap (λ (b : Bool). covers put.0 pv sector || b) (at_append first more pv sector)
    ∙ or_again (covers put.0 pv sector) (written_at first pv sector) (written_at more pv sector)
  where
    or_again : (x y z : Bool) → (x || (y || z)) ≡ ((x || y) || z)
    or_again true y z = refl
    or_again false y z = refl

-- where a sector is written, some value is
pub written_some : (puts : List (Span × List (List ℕ))) (pv sector : ℕ) → written_at puts pv sector ≡ true
    → (value : List ℕ) × IsWrittenBy puts pv sector value
written_some [] pv sector h = absurd (true≢false (sym h))
written_some (put ∷ puts) pv sector h = step (λ later. written_some puts pv sector later) (covers put.0 pv sector) refl h
  where
    step : (written_at puts pv sector ≡ true → (value : List ℕ) × IsWrittenBy puts pv sector value) → (b : Bool)
        → covers put.0 pv sector ≡ b → (b || written_at puts pv sector) ≡ true → (value : List ℕ) × IsWrittenBy (put ∷ puts) pv sector value
    step rest true is h' = (value_at put.0 put.1 sector, inl (is, refl))
    step rest false is h' = let w = rest h' in (w.0, inr w.1)

module _ (text : List ℕ) where
  -- of which area a write of a text is
  whole_where : (areas : List (Area × Option Locn)) (d : Area × Option Locn) (pv sector : ℕ) (value : List ℕ)
      → IsWrittenBy (whole_texts (map (area_writes text) areas)) pv sector value
      → (k : ℕ) × (k < length areas) × IsWrittenBy (text_puts text (get_or areas k d)) pv sector value
  whole_where [] d pv sector value h = absurd h
  whole_where (a ∷ areas) d pv sector value h =
      step (λ later. whole_where areas d pv sector value later)
      (written_append (text_puts text a) (whole_texts (map (area_writes text) areas)) pv sector value h)
    where
      step : (IsWrittenBy (whole_texts (map (area_writes text) areas)) pv sector value
          → (k : ℕ) × (k < length areas) × IsWrittenBy (text_puts text (get_or areas k d)) pv sector value)
          → IsWrittenBy (text_puts text a) pv sector value ⊎ IsWrittenBy (whole_texts (map (area_writes text) areas)) pv sector value
          → (k : ℕ) × (k < length (a ∷ areas)) × IsWrittenBy (text_puts text (get_or (a ∷ areas) k d)) pv sector value
      step rest (inl here) = (0, omega arith, here)
      step rest (inr later) = let w = rest later in (suc w.0, omega (arith, w.1), w.2)

  pub text_where : (areas : List (Area × Option Locn)) (d : Area × Option Locn) (pv sector : ℕ) (value : List ℕ)
      → IsWrittenBy (texts_of (map (area_writes text) areas)) pv sector value
      → (k : ℕ) × (k < length areas) × IsWrittenBy (text_puts text (get_or areas k d)) pv sector value
  text_where areas d pv sector value h =
      whole_where areas d pv sector value (blocks_written (whole_texts (map (area_writes text) areas)) pv sector value h)

  -- of which area a write of a header is
  pub header_where : (areas : List (Area × Option Locn)) (d : Area × Option Locn) (pv sector : ℕ) (value : List ℕ)
      → IsWrittenBy (headers_of (map (area_writes text) areas)) pv sector value
      → (k : ℕ) × (k < length areas) × IsTrue (covers (header_span (get_or areas k d).0) pv sector)
      × (value ≡ value_at (header_span (get_or areas k d).0) (header_bytes (header_before text (get_or areas k d)) ∷ []) sector)
  header_where [] d pv sector value h = absurd h
  header_where (a ∷ areas) d pv sector value (inl here) = (0, omega arith, here.0, here.1)
  header_where (a ∷ areas) d pv sector value (inr later) =
      let w = header_where areas d pv sector value later in (suc w.0, omega (arith, w.1), w.2, w.3)

  pub publish_where : (areas : List (Area × Option Locn)) (d : Area × Option Locn) (pv sector : ℕ) (value : List ℕ)
      → IsWrittenBy (publish_of (map (area_writes text) areas)) pv sector value
      → (k : ℕ) × (k < length areas) × IsTrue (covers (header_span (get_or areas k d).0) pv sector)
      × (value ≡ value_at (header_span (get_or areas k d).0) (header_bytes (header_after text (get_or areas k d)) ∷ []) sector)
  publish_where [] d pv sector value h = absurd h
  publish_where (a ∷ areas) d pv sector value (inl here) = (0, omega arith, here.0, here.1)
  publish_where (a ∷ areas) d pv sector value (inr later) =
      let w = publish_where areas d pv sector value later in (suc w.0, omega (arith, w.1), w.2, w.3)

  -- the third batch writes the sectors of the second
  pub same_headers : (areas : List (Area × Option Locn)) (pv sector : ℕ)
      → written_at (publish_of (map (area_writes text) areas)) pv sector ≡ written_at (headers_of (map (area_writes text) areas)) pv sector
  same_headers [] pv sector = refl
  same_headers (a ∷ areas) pv sector = ap (λ (b : Bool). covers (header_span a.0) pv sector || b) (same_headers areas pv sector)

  -- each header is written, and each text
  header_at : (areas : List (Area × Option Locn)) (d : Area × Option Locn) (k pv sector : ℕ) → k < length areas
      → covers (header_span (get_or areas k d).0) pv sector ≡ true → written_at (headers_of (map (area_writes text) areas)) pv sector ≡ true
  header_at [] d k pv sector within h = absurd (omega arith)
  header_at (a ∷ areas) d zero pv sector within h =
      or_left (covers (header_span a.0) pv sector) (written_at (headers_of (map (area_writes text) areas)) pv sector) h
  header_at (a ∷ areas) d (suc k) pv sector within h =
      or_right (covers (header_span a.0) pv sector) (written_at (headers_of (map (area_writes text) areas)) pv sector)
      (header_at areas d k pv sector (omega arith) h)

  whole_at : (areas : List (Area × Option Locn)) (d : Area × Option Locn) (k pv sector : ℕ) → k < length areas
      → written_at (text_puts text (get_or areas k d)) pv sector ≡ true
      → written_at (whole_texts (map (area_writes text) areas)) pv sector ≡ true
  whole_at [] d k pv sector within h = absurd (omega arith)
  whole_at (a ∷ areas) d zero pv sector within h =
      at_append (text_puts text a) (whole_texts (map (area_writes text) areas)) pv sector
      ∙ or_left (written_at (text_puts text a) pv sector) (written_at (whole_texts (map (area_writes text) areas)) pv sector) h
  whole_at (a ∷ areas) d (suc k) pv sector within h =
      at_append (text_puts text a) (whole_texts (map (area_writes text) areas)) pv sector
      ∙ or_right (written_at (text_puts text a) pv sector) (written_at (whole_texts (map (area_writes text) areas)) pv sector)
      (whole_at areas d k pv sector (omega arith) h)

  text_at_area : (areas : List (Area × Option Locn)) (d : Area × Option Locn) (k pv sector : ℕ) → k < length areas
      → written_at (text_puts text (get_or areas k d)) pv sector ≡ true
      → written_at (texts_of (map (area_writes text) areas)) pv sector ≡ true
  text_at_area areas d k pv sector within h =
      blocks_cover (whole_texts (map (area_writes text) areas)) pv sector (whole_at areas d k pv sector within h)

-- a header's sector, and its one value
header_sector : (a : Area) (pv sector : ℕ) → covers (header_span a) pv sector ≡ true → (a.pv ≡ pv) × (a.start / 512 ≡ sector)
header_sector a pv sector h =
    let t : (a.pv ≡ pv) × (a.start / 512 ≤ sector)
    × (sector < a.start / 512 + 1) = covers_tells (header_span a) pv sector h in (t.0, omega (arith, t.1, t.2))

pub header_value : (a : Area) (bytes value : List ℕ) (sector : ℕ) → a.start / 512 ≡ sector
    → value ≡ value_at (header_span a) (bytes ∷ []) sector → value ≡ bytes
header_value a bytes value sector at is =
    let first : sector - a.start / 512 ≡ 0 = omega arith in is ∙ ap (λ (k : ℕ). get_or (bytes ∷ []) k []) first

pub header_covers : (a : Area) (pv sector : ℕ) → IsArea a → covers (header_span a) pv sector ≡ true → covers (area_span a) pv sector ≡ true
header_covers a pv sector good h =
    let t = header_sector a pv sector h in
    let big : 1536 ≤ a.size = good.has_ring in
    covers_from (area_span a) pv sector t.0 (omega (arith, t.1)) (omega (arith, t.1))

-- what a header that is read as it is says
names_committed : (a : Area) (committed precommitted : Option Locn) (value : List ℕ) → IsHeader value (header_of a committed precommitted)
    → Names a committed value
names_committed a None precommitted value h =
    inl (record { sound = h.sound; none = h.committed }, λ bit. true≢false (sym (h.ignored.1 bit)))
names_committed a (Some locn) precommitted value h = (
  record {
    of_area = record { sound = h.sound; start_is = h.start; size_is = h.size };
    inside = subst (IsInside a.size) h.committed.0 h.committed.1;
  },
  λ bit. true≢false (sym (h.ignored.1 bit)),
  h.committed.0,
)

-- no byte of a text stands in the header
no_part : (size : ℕ) (entry : Option Locn) (bytes : List ℕ) (value : List ℕ) → HasPart size entry bytes 0 value
no_part size None bytes value = tt
no_part size (Some locn) bytes value = λ j within at. absurd (behind ((locn.offset - 512 + j) % (size - 512)) at)
  where
    behind : (x : ℕ) → (512 + x) / 512 ≡ 0 → ⊥
    behind x h = omega arith

header_reads : (a : Area × Option Locn) (committed precommitted : Option Locn) (bytes value : List ℕ) (sector : ℕ)
    → a.0.start / 512 ≡ sector → value ≡ header_bytes (header_of a.0 committed precommitted)
    → IsHeader (header_bytes (header_of a.0 committed precommitted)) (header_of a.0 committed precommitted)
    → Reads a.0 committed bytes (sector - a.0.start / 512) value
header_reads a committed precommitted bytes value sector at is h =
    let first : 0 ≡ sector - a.0.start / 512 = omega arith in
    subst (λ (s : ℕ). Reads a.0 committed bytes s value) first
    (record {
      header = λ _. names_committed a.0 committed precommitted value
          (subst (λ (v : List ℕ). IsHeader v (header_of a.0 committed precommitted)) (sym is) h);
      ring = no_part a.0.size committed bytes value;
    })

module _ (text : List ℕ) (areas : List (Area × Option Locn)) (bytes : Area × Option Locn → List ℕ) (take : All CanTake areas)
    (apart : AllPairs LieApart areas) (room_is : first_too_large text areas ≡ None) (read : All (HeadersRead text) areas) where
  placed : (k : ℕ) (d : Area × Option Locn) → k < length areas → IsPlaced text (get_or areas k d)
  placed k d within = is_placed text (get_or areas k d) (take k d within) (rooms text areas room_is k d within)

  -- a text's sector in its area
  texts_old : (pv sector : ℕ) (value : List ℕ) → IsWrittenBy (texts_of (map (area_writes text) areas)) pv sector value
      → AllRead (old_reading bytes) areas pv sector value
  texts_old pv sector value by j d within inside =
      let w = text_where text areas d pv sector value by in
      let a : Area × Option Locn = get_or areas w.0 d in
      let put : IsTextPut text a pv sector value = text_put text a (placed w.0 d w.1) pv sector value w.2 in
      subst (λ (b : Area × Option Locn). Reads b.0 b.1 (bytes b) (sector - b.0.start / 512) value)
      (one_area areas take apart d w.0 j pv sector w.1 within (put_covers text a (placed w.0 d w.1) pv sector value put) inside)
      (put_old text a (placed w.0 d w.1) pv sector value put (bytes a))

  texts_new : (pv sector : ℕ) (value : List ℕ) → IsWrittenBy (texts_of (map (area_writes text) areas)) pv sector value
      → AllRead (new_reading text) areas pv sector value
  texts_new pv sector value by j d within inside =
      let w = text_where text areas d pv sector value by in
      let a : Area × Option Locn = get_or areas w.0 d in
      let put : IsTextPut text a pv sector value = text_put text a (placed w.0 d w.1) pv sector value w.2 in
      subst (λ (b : Area × Option Locn). Reads b.0 (new_reading text b).0 (new_reading text b).1 (sector - b.0.start / 512) value)
      (one_area areas take apart d w.0 j pv sector w.1 within (put_covers text a (placed w.0 d w.1) pv sector value put) inside)
      (put_new text a (placed w.0 d w.1) pv sector value put)

  headers_old : (pv sector : ℕ) (value : List ℕ) → IsWrittenBy (headers_of (map (area_writes text) areas)) pv sector value
      → AllRead (old_reading bytes) areas pv sector value
  headers_old pv sector value by j d within inside =
      let w = header_where text areas d pv sector value by in
      let a : Area × Option Locn = get_or areas w.0 d in
      let at = header_sector a.0 pv sector w.2 in
      subst (λ (b : Area × Option Locn). Reads b.0 b.1 (bytes b) (sector - b.0.start / 512) value)
      (one_area areas take apart d w.0 j pv sector w.1 within (header_covers a.0 pv sector (take w.0 d w.1).0 w.2) inside)
      (header_reads a a.1 (Some (new_entry text a)) (bytes a) value sector at.1
      (header_value a.0 (header_bytes (header_before text a)) value sector at.1 w.3) (read w.0 d w.1).before)

  publish_new : (pv sector : ℕ) (value : List ℕ) → IsWrittenBy (publish_of (map (area_writes text) areas)) pv sector value
      → AllRead (new_reading text) areas pv sector value
  publish_new pv sector value by j d within inside =
      let w = publish_where text areas d pv sector value by in
      let a : Area × Option Locn = get_or areas w.0 d in
      let at = header_sector a.0 pv sector w.2 in
      subst (λ (b : Area × Option Locn). Reads b.0 (new_reading text b).0 (new_reading text b).1 (sector - b.0.start / 512) value)
      (one_area areas take apart d w.0 j pv sector w.1 within (header_covers a.0 pv sector (take w.0 d w.1).0 w.2) inside)
      (header_reads a (Some (new_entry text a)) None (stored text) value sector at.1
      (header_value a.0 (header_bytes (header_after text a)) value sector at.1 w.3) (read w.0 d w.1).after)

  -- the new reading asks for the header and the text alone
  rest_new : (pv sector : ℕ) (value : List ℕ) → written_at (headers_of (map (area_writes text) areas)) pv sector ≡ false
      → written_at (texts_of (map (area_writes text) areas)) pv sector ≡ false → AllRead (new_reading text) areas pv sector value
  rest_new pv sector value no_header no_text j d within inside =
      let a : Area × Option Locn = get_or areas j d in
      let t : (a.0.pv ≡ pv) × (a.0.start / 512 ≤ sector) × (sector < a.0.start / 512 + a.0.size / 512) =
      covers_tells (area_span a.0) pv sector inside in
      record {
        header =
            λ first. absurd (true≢false (sym (header_at text areas d j pv sector within
            (covers_from (header_span a.0) pv sector t.0 t.1 (omega (arith, t.1)))) ∙ no_header));
        ring = λ i in_text at.
            absurd
            (true≢false
            (sym (text_at_area text areas d j pv sector within
            (text_covers text a (placed j d within) pv sector
            (record { of_disk = sym t.0; behind_start = t.1; touches = (i, in_text, at) })))
            ∙ no_text));
      }

  -- of an area one header is written
  pub one_header : (k : ℕ) (d : Area × Option Locn) → k < length areas → (sector : ℕ)
      → IsTrue (covers (area_span (get_or areas k d).0) (get_or areas k d).0.pv sector)
      → written_at (headers_of (map (area_writes text) areas)) (get_or areas k d).0.pv sector ≡ true
      → sector ≡ (get_or areas k d).0.start / 512
  one_header k d within sector inside is =
      let pv : ℕ = (get_or areas k d).0.pv in
      let some = written_some (headers_of (map (area_writes text) areas)) pv sector is in
      let w = header_where text areas d pv sector some.0 some.1 in
      let a : Area × Option Locn = get_or areas w.0 d in
      let same : a ≡ get_or areas k d =
      one_area areas take apart d w.0 k pv sector w.1 within (header_covers a.0 pv sector (take w.0 d w.1).0 w.2) inside in
      sym (header_sector a.0 pv sector w.2).1 ∙ ap (λ (b : Area × Option Locn). b.0.start / 512) same

  -- of which area a sector that is written is
  pub text_area : (d : Area × Option Locn) (pv sector : ℕ) (value : List ℕ)
      → IsWrittenBy (texts_of (map (area_writes text) areas)) pv sector value
      → (k : ℕ) × (k < length areas) × (covers (area_span (get_or areas k d).0) pv sector ≡ true)
  text_area d pv sector value by =
      let w = text_where text areas d pv sector value by in
      let a : Area × Option Locn = get_or areas w.0 d in
      (w.0, w.1, put_covers text a (placed w.0 d w.1) pv sector value (text_put text a (placed w.0 d w.1) pv sector value w.2))

  pub header_area : (d : Area × Option Locn) (pv sector : ℕ) (value : List ℕ)
      → IsWrittenBy (headers_of (map (area_writes text) areas)) pv sector value
      → (k : ℕ) × (k < length areas) × (covers (area_span (get_or areas k d).0) pv sector ≡ true)
  header_area d pv sector value by =
      let w = header_where text areas d pv sector value by in
      (w.0, w.1, header_covers (get_or areas w.0 d).0 pv sector (take w.0 d w.1).0 w.2)

  pub publish_area : (d : Area × Option Locn) (pv sector : ℕ) (value : List ℕ)
      → IsWrittenBy (publish_of (map (area_writes text) areas)) pv sector value
      → (k : ℕ) × (k < length areas) × (covers (area_span (get_or areas k d).0) pv sector ≡ true)
  publish_area d pv sector value by =
      let w = publish_where text areas d pv sector value by in
      (w.0, w.1, header_covers (get_or areas w.0 d).0 pv sector (take w.0 d w.1).0 w.2)

  -- the disk of a sector that is written is flushed, where those of all areas are
  module _ (text_disks publish_disks : List ℕ) (texts_on : All (λ (a : Area × Option Locn). IsAmong text_disks a.0.pv) areas)
      (headers_on : All (λ (a : Area × Option Locn). IsAmong publish_disks a.0.pv) areas) (d : Area × Option Locn) where
    pub make_commit : MakeCommit (AllRead (old_reading bytes) areas) (AllRead (new_reading text) areas)
        (texts_of (map (area_writes text) areas)) (headers_of (map (area_writes text) areas)) (publish_of (map (area_writes text) areas))
        text_disks publish_disks
    make_commit = record {
      texts_old = texts_old;
      texts_new = texts_new;
      headers_old = headers_old;
      publish_new = publish_new;
      same_headers = same_headers text areas;
      rest = rest_new;
      texts_flushed = λ pv sector is.
          let some = written_some (texts_of (map (area_writes text) areas)) pv sector is in
          let w = text_area d pv sector some.0 some.1 in
          subst (IsAmong text_disks) (covers_tells (area_span (get_or areas w.0 d).0) pv sector w.2).0 (texts_on w.0 d w.1);
      headers_flushed = λ pv sector is.
          let some = written_some (headers_of (map (area_writes text) areas)) pv sector is in
          let w = header_area d pv sector some.0 some.1 in
          subst (IsAmong publish_disks) (covers_tells (area_span (get_or areas w.0 d).0) pv sector w.2).0 (headers_on w.0 d w.1);
    }
