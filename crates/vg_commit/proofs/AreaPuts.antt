-- What is written to one area.
use Rattle.std.proofs.Common.{◌≡◌, ◌≤◌, ◌<◌, ◌⊎◌, ℕ, ◌+◌, ◌-◌, ◌*◌, ◌/◌, ◌%◌, min, Bool, true, false, ◌||◌, cond, nat_lt, IsTrue, List, []}
use Rattle.std.proofs.Common.{length, take, drop, get_or, Option, None, Some, IfSome, inl, inr, refl, sym, ap, ◌∙◌, arith}
use Rattle.std.proofs.lemmas.Bool.{ltb-true, ltb-false}
use Rattle.std.proofs.lemmas.List.{get_or-drop, get_or-take}
use Rattle.std.proofs.lemmas.List.FromFn.{get_or-map-range_with_len}
use Rattle.sector_base.specs.declared.spans.Span.{Span}
use Rattle.sector_base.specs.Spans.{covers}
use Rattle.disk_model.specs.Steps.{value_at}
use Rattle.disk_batch.specs.Writes.{IsWrittenBy}
use Rattle.mda_header.specs.declared.header.Locn.{Locn}
use Rattle.mda_header.specs.Header.{IsInside}
use Rattle.mda_header.specs.HeaderBytes.{IsNoneOrInside}
use Rattle.mda_ring.specs.declared.area.Area.{Area}
use Rattle.mda_ring.specs.declared.place.Place.{Place}
use Rattle.mda_ring.specs.Areas.{CanTake, IsArea}
use Rattle.mda_ring.specs.NextPlace.{IsApart, IsInRing, IsNext}
use Rattle.mda_ring.specs.Ring.{Touches, byte_place, need, next_offset, room, touched_count}
use Rattle.mda_ring.specs.RingSpans.{IsTouched, sectors_to_end, span_of_area}
use Rattle.mda_ring.specs.Texts.{text_sector, text_sectors}
use Rattle.mda_ring.proofs.NextPlace.{apart, in_ring}
use Rattle.mda_ring.proofs.RingPlaces.{byte_place-cases}
use Rattle.mda_ring.proofs.SpanLaws.{cover_ahead, cover_round, covers_from, covers_tells}
use Rattle.mda_ring.proofs.TextBytes.{get_or-text_sector, get_or-with_zero, length-with_zero}
use Rattle.vg_commit.specs.Written.{area_span, new_entry, rest_put, stored, text_puts}
use Rattle.vg_commit.specs.SectorReading.{HasPart, Reads}
use Rattle.vg_commit.specs.Commits.{written_at}

-- where the text goes
abbrev pub place_of : List ℕ → Area × Option Locn → Place
place_of text a = record { offset = next_offset a.0.size a.1; sectors = need (length text + 1) }

-- an area in which the text has its place
pub record IsPlaced (text : List ℕ) (a : Area × Option Locn) : Type 0 where
  pub good : IsArea a.0
  pub ring : IsInRing a.0.size (place_of text a)
  pub beside : IsApart a.0.size a.1 (place_of text a)
  pub touched : touched_count a.0.size (next_offset a.0.size a.1) (length text + 1) ≡ need (length text + 1)

none_or_inside : (size : ℕ) (committed : Option Locn) → IfSome committed (IsInside size) → IsNoneOrInside size committed
none_or_inside size None h = tt
none_or_inside size (Some locn) h = h

pub touched_is : (size offset count : ℕ) → size % 512 ≡ 0 → offset % 512 ≡ 0 → 512 * need count ≤ size - 512
    → min (size / 512 - 1) (need (offset + count) - offset / 512) ≡ need count
touched_is size offset count whole aligned fits = omega arith

pub is_placed : (text : List ℕ) (a : Area × Option Locn) → CanTake a → need (length text + 1) ≤ room a.0.size a.1 → IsPlaced text a
is_placed text a take has_room =
    let next : IsNext a.0.size a.1 (length text + 1) (place_of text a) =
    record { offset_is = refl; sectors_is = refl; has_room = has_room } in
    let inside : IsNoneOrInside a.0.size a.1 = none_or_inside a.0.size a.1 take.1 in
    let r : IsInRing a.0.size (place_of text a) =
    in_ring a.0.size a.1 (length text + 1) (place_of text a) take.0.size_is_whole take.0.has_ring inside (omega arith) next in
    record {
      good = take.0;
      ring = r;
      beside = apart a.0.size a.1 (length text + 1) (place_of text a) take.0.size_is_whole take.0.has_ring inside (omega arith) next;
      touched = touched_is a.0.size (next_offset a.0.size a.1) (length text + 1) take.0.size_is_whole r.is_whole r.fits;
    }

-- the new entry lies in the area
pub entry_inside : (text : List ℕ) (a : Area × Option Locn) → IsPlaced text a
    → IsInside a.0.size (new_entry text a) × (length (stored text) ≡ length text + 1)
entry_inside text a placed =
    let fits : 512 * need (length text + 1) ≤ a.0.size - 512 = placed.ring.fits in (
      record {
        behind_header = placed.ring.behind_header;
        before_end = placed.ring.before_end;
        has_bytes = omega arith;
        has_room = omega arith;
      },
      length-with_zero text,
    )

-- the sector is number `number` of those that the text takes in the area, and this is its value
pub record IsTextPut (text : List ℕ) (a : Area × Option Locn) (pv sector : ℕ) (value : List ℕ) : Type 0 where
  pub number : ℕ
  pub few : number < need (length text + 1)
  pub disk : a.0.pv ≡ pv
  pub from : a.0.start / 512 + 1 ≤ sector
  pub to : sector < a.0.start / 512 + a.0.size / 512
  pub is : value ≡ text_sector text number
  pub at : (sector - a.0.start / 512 ≡ next_offset a.0.size a.1 / 512 + number)
      ⊎ (sector - a.0.start / 512 + (a.0.size / 512 - 1) ≡ next_offset a.0.size a.1 / 512 + number)

-- the sectors of a text by their numbers
numbered : (text : List ℕ) (total k : ℕ) → k < total → get_or (text_sectors text total) k [] ≡ text_sector text k
numbered text total k within = get_or-map-range_with_len (text_sector text) 0 total k k [] within (omega arith)

module _ (text : List ℕ) (a : Area × Option Locn) (placed : IsPlaced text a) where
  abbrev offset : ℕ
  offset = next_offset a.0.size a.1

  abbrev total : ℕ
  total = need (length text + 1)

  abbrev all : ℕ
  all = touched_count a.0.size offset (length text + 1)

  abbrev to_end : ℕ
  to_end = sectors_to_end a.0.size offset

  abbrev first_span : Span
  first_span = span_of_area a.0 (offset / 512) (min all to_end)

  abbrev second_span : Span
  second_span = span_of_area a.0 1 (all - to_end)

  put_first : (pv sector : ℕ) (value : List ℕ) → IsTrue (covers first_span pv sector)
      → value ≡ value_at first_span (take (min all to_end) (text_sectors text total)) sector → IsTextPut text a pv sector value
  put_first pv sector value inside is =
      let t : (a.0.pv ≡ pv) × (a.0.start / 512 + offset / 512 ≤ sector) × (sector < a.0.start / 512 + offset / 512 + min all to_end) =
      covers_tells first_span pv sector inside in
      let k : ℕ = sector - (a.0.start / 512 + offset / 512) in
      let same : all ≡ total = placed.touched in
      let behind : 512 ≤ offset = placed.ring.behind_header in
      let before : offset < a.0.size = placed.ring.before_end in
      let low : k < min all to_end = omega (arith, t.1, t.2) in
      record {
        number = k;
        few = omega (arith, low, same);
        disk = t.0;
        from = omega (arith, t.1);
        to = omega (arith, t.2);
        is = is ∙ get_or-take (min all to_end) (text_sectors text total) k [] low ∙ numbered text total k (omega (arith, low, same));
        at = inl (omega (arith, t.1));
      }

  put_second : (pv sector : ℕ) (value : List ℕ) → to_end < all → IsTrue (covers second_span pv sector)
      → value ≡ value_at second_span (drop (min all to_end) (text_sectors text total)) sector → IsTextPut text a pv sector value
  put_second pv sector value round inside is =
      let t : (a.0.pv ≡ pv) × (a.0.start / 512 + 1 ≤ sector) × (sector < a.0.start / 512 + 1 + (all - to_end)) =
      covers_tells second_span pv sector inside in
      let k : ℕ = min all to_end + (sector - (a.0.start / 512 + 1)) in
      let same : all ≡ total = placed.touched in
      let behind : 512 ≤ offset = placed.ring.behind_header in
      let before : offset < a.0.size = placed.ring.before_end in
      let fits : 512 * total ≤ a.0.size - 512 = placed.ring.fits in
      let whole : a.0.size % 512 ≡ 0 = placed.good.size_is_whole in
      let low : k < total = omega (arith, t.1, t.2, same, round) in
      record {
        number = k;
        few = low;
        disk = t.0;
        from = t.1;
        to = omega (arith, t.2, same, round, fits, whole);
        is = is ∙ get_or-drop (min all to_end) (text_sectors text total) (sector - (a.0.start / 512 + 1)) [] ∙ numbered text total k low;
        at = inr (omega (arith, t.1, round, before));
      }

  put_rest : (pv sector : ℕ) (value : List ℕ) (b : Bool) → nat_lt to_end all ≡ b
      → IsWrittenBy (rest_put (cond b (Some second_span) None) (drop (min all to_end) (text_sectors text total))) pv sector value
      → IsTextPut text a pv sector value
  put_rest pv sector value true round (inl h) = put_second pv sector value (ltb-true to_end all round) h.0 h.1
  put_rest pv sector value true round (inr h) = absurd h
  put_rest pv sector value false round h = absurd h

  -- what the text's writes write
  pub text_put : (pv sector : ℕ) (value : List ℕ) → IsWrittenBy (text_puts text a) pv sector value → IsTextPut text a pv sector value
  text_put pv sector value (inl h) = put_first pv sector value h.0 h.1
  text_put pv sector value (inr h) = put_rest pv sector value (nat_lt to_end all) refl h

  -- the writes cover each sector that the text touches
  covers_rest : (pv sector : ℕ) (b : Bool) → nat_lt to_end all ≡ b → IsTouched a.0 offset (length text + 1) pv sector
      → (covers first_span pv sector || written_at
      (rest_put (cond b (Some second_span) None) (drop (min all to_end) (text_sectors text total))) pv sector) ≡ true
  covers_rest pv sector true round touched =
      let fits : 512 * total ≤ a.0.size - 512 = placed.ring.fits in
      or_again (covers first_span pv sector) (covers second_span pv sector)
      ((cover_round a.0 offset (length text + 1) placed.good placed.ring.behind_header placed.ring.before_end (omega arith) (omega arith)
      (ltb-true to_end all round) pv sector).1 touched)
    where
      or_again : (x y : Bool) → (x || y) ≡ true → (x || (y || false)) ≡ true
      or_again true y h = refl
      or_again false true h = refl
      or_again false false h = h
  covers_rest pv sector false straight touched =
      let fits : 512 * total ≤ a.0.size - 512 = placed.ring.fits in
      (cover_ahead a.0 offset (length text + 1) placed.good placed.ring.behind_header placed.ring.before_end (omega arith) (omega arith)
      (ltb-false to_end all straight) pv sector).1 touched

  pub text_covers : (pv sector : ℕ) → IsTouched a.0 offset (length text + 1) pv sector → written_at (text_puts text a) pv sector ≡ true
  text_covers pv sector touched = covers_rest pv sector (nat_lt to_end all) refl touched

-- the byte of a text that stands in its sector with this number, and where it stands there
same_byte : (size offset count number s j p : ℕ) → size % 512 ≡ 0 → 1536 ≤ size → offset % 512 ≡ 0 → 512 ≤ offset → offset < size
    → 512 * need count ≤ size - 512 → number < need count → j < count
    → (s ≡ offset / 512 + number) ⊎ (s + (size / 512 - 1) ≡ offset / 512 + number)
    → ((offset + j < size) × (p ≡ offset + j)) ⊎ ((size ≤ offset + j) × (p + (size - 512) ≡ offset + j))
    → p / 512 ≡ s → (j / 512 ≡ number) × (p % 512 ≡ j % 512)
same_byte size offset count number s j p whole big aligned behind before fits few within (inl x) (inl y) at =
    (omega (arith, y.1), omega (arith, y.1))
same_byte size offset count number s j p whole big aligned behind before fits few within (inl x) (inr y) at = absurd (omega (arith, y.1))
same_byte size offset count number s j p whole big aligned behind before fits few within (inr x) (inl y) at = absurd (omega (arith, y.1))
same_byte size offset count number s j p whole big aligned behind before fits few within (inr x) (inr y) at =
    (omega (arith, y.1), omega (arith, y.1))

-- where the sector with this number begins
first_byte : (size offset count number s p : ℕ) → size % 512 ≡ 0 → 1536 ≤ size → offset % 512 ≡ 0 → 512 ≤ offset → offset < size
    → 512 * need count ≤ size - 512 → number < need count → 1 ≤ s → s < size / 512
    → (s ≡ offset / 512 + number) ⊎ (s + (size / 512 - 1) ≡ offset / 512 + number)
    → ((offset + 512 * number < size) × (p ≡ offset + 512 * number))
    ⊎ ((size ≤ offset + 512 * number) × (p + (size - 512) ≡ offset + 512 * number))
    → p / 512 ≡ s
first_byte size offset count number s p whole big aligned behind before fits few from to (inl x) (inl y) = omega (arith, y.1)
first_byte size offset count number s p whole big aligned behind before fits few from to (inl x) (inr y) = absurd (omega (arith, y.0))
first_byte size offset count number s p whole big aligned behind before fits few from to (inr x) (inl y) = absurd (omega (arith, y.0))
first_byte size offset count number s p whole big aligned behind before fits few from to (inr x) (inr y) = omega (arith, y.1)

-- a sector of the old text isn't one of the new one's
old_part : (size : ℕ) (committed : Option Locn) (place : Place) (bytes : List ℕ) (sector : ℕ) (value : List ℕ)
    → IsApart size committed place → Touches size place.offset (512 * place.sectors) sector → HasPart size committed bytes sector value
old_part size None place bytes sector value beside touches = tt
old_part size (Some locn) place bytes sector value beside touches = λ j within at. absurd (beside sector touches (j, within, at))

module _ (text : List ℕ) (a : Area × Option Locn) (placed : IsPlaced text a) (pv sector : ℕ) (value : List ℕ)
    (put : IsTextPut text a pv sector value) where
  abbrev at_offset : ℕ
  at_offset = next_offset a.0.size a.1

  -- the new text stands there
  pub put_new : Reads a.0 (Some (new_entry text a)) (stored text) (sector - a.0.start / 512) value
  put_new = record {
    header = λ first. absurd (omega (arith, put.from));
    ring = λ j within at.
        let fits : 512 * need (length text + 1) ≤ a.0.size - 512 = placed.ring.fits in
        let same : (j / 512 ≡ put.number) × (byte_place a.0.size at_offset j % 512 ≡ j % 512) =
        same_byte a.0.size at_offset (length text + 1) put.number (sector - a.0.start / 512) j (byte_place a.0.size at_offset j)
        placed.good.size_is_whole placed.good.has_ring placed.ring.is_whole placed.ring.behind_header placed.ring.before_end
        placed.ring.fits put.few within put.at (byte_place-cases a.0.size at_offset j placed.ring.behind_header placed.ring.before_end
        (omega arith)) at
        in
        ap (λ (l : List ℕ). get_or l (byte_place a.0.size at_offset j % 512) 0) put.is
        ∙ ap (λ (i : ℕ). get_or (text_sector text put.number) i 0) same.1
        ∙ ap (λ (m : ℕ). get_or (text_sector text m) (j % 512) 0) (sym same.0)
        ∙ get_or-text_sector text j
        ∙ sym (get_or-with_zero text j within);
  }

  -- and nothing of the old one
  pub put_old : (bytes : List ℕ) → Reads a.0 a.1 bytes (sector - a.0.start / 512) value
  put_old bytes = record {
    header = λ first. absurd (omega (arith, put.from));
    ring =
        let fits : 512 * need (length text + 1) ≤ a.0.size - 512 = placed.ring.fits in
        let few : put.number < need (length text + 1) = put.few in
        let begins : byte_place a.0.size at_offset (512 * put.number) / 512 ≡ sector - a.0.start / 512 =
        first_byte a.0.size at_offset (length text + 1) put.number (sector - a.0.start / 512)
        (byte_place a.0.size at_offset (512 * put.number)) placed.good.size_is_whole placed.good.has_ring placed.ring.is_whole
        placed.ring.behind_header placed.ring.before_end
        placed.ring.fits put.few (omega (arith, put.from)) (omega (arith, put.from, put.to)) put.at
        (byte_place-cases a.0.size at_offset (512 * put.number) placed.ring.behind_header placed.ring.before_end (omega arith))
        in
        old_part a.0.size a.1 (place_of text a) bytes (sector - a.0.start / 512) value placed.beside
        (512 * put.number, omega arith, begins);
  }

  -- the sector is one of the area
  pub put_covers : covers (area_span a.0) pv sector ≡ true
  put_covers = covers_from (area_span a.0) pv sector put.disk (omega (arith, put.from)) put.to
