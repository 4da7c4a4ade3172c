-- The spans of a text have the sectors that its bytes touch, in the order of the bytes.
use Rattle.std.proofs.Common.{◌≡◌, IsTrue, ℕ, ◌+◌, ◌-◌, ◌*◌, ◌/◌, ◌%◌, ◌<◌, ◌≤◌, ◌↔◌, min, true, false, ◌&&◌, ◌==◌, nat_le, nat_lt, None}
use Rattle.std.proofs.Common.{Some, ◌⊎◌, inl, inr, sym, ◌∙◌, arith}
use Rattle.std.proofs.lemmas.Bool.{and_from, and_parts, cases_order, eq-eqb, eqb-true, le-leb, leb-true, lt-ltb, ltb-true, or_cases}
use Rattle.std.proofs.lemmas.Bool.{or_left, or_right, cond-true, cond-false, le-ltb, false≢true}
use Rattle.sector_base.specs.Spans.{covers}
use Rattle.sector_base.specs.declared.spans.Span.{Span}
use Rattle.mda_ring.specs.declared.area.Area.{Area}
use Rattle.mda_ring.specs.Areas.{IsArea}
use Rattle.mda_ring.specs.Ring.{Touches, byte_place, ring_sector, touched_count}
use Rattle.mda_ring.specs.RingSpans.{IsTouched, nth_sector, sectors_to_end, span_of_area, spans_cover}
use Rattle.mda_ring.proofs.RingPlaces.{byte_place-cases, ring_sector-cases}

-- a span covers a sector exactly where it is in it
pub covers_from : (span : Span) (pv sector : ℕ) → span.pv ≡ pv → span.first ≤ sector → sector < span.first + span.count
    → covers span pv sector ≡ true
covers_from span pv sector disk from to =
    and_from (span.pv == pv && nat_le span.first sector) (nat_lt sector (span.first + span.count))
    (and_from (span.pv == pv) (nat_le span.first sector) (eq-eqb span.pv pv disk) (le-leb span.first sector from))
    (lt-ltb sector (span.first + span.count) to)

pub covers_tells : (span : Span) (pv sector : ℕ) → covers span pv sector ≡ true
    → (span.pv ≡ pv) × (span.first ≤ sector) × (sector < span.first + span.count)
covers_tells span pv sector is =
    let parts = and_parts (span.pv == pv && nat_le span.first sector) (nat_lt sector (span.first + span.count)) is in
    let front = and_parts (span.pv == pv) (nat_le span.first sector) parts.0 in
    (eqb-true span.pv pv front.0, leb-true span.first sector front.1, ltb-true sector (span.first + span.count) parts.1)

-- a sector of the area from the text's first one on is touched
touched_ahead : (size offset count sector : ℕ) → size % 512 ≡ 0 → 1536 ≤ size → 512 ≤ offset → offset < size → 1 ≤ count
    → count ≤ size - 512
    → offset / 512 ≤ sector → sector < size / 512 → sector - offset / 512 < touched_count size offset count
    → Touches size offset count sector
touched_ahead size offset count sector whole big behind before some short from to within =
    let j : ℕ = 512 * sector - offset in
    let in_text : j < count = omega arith in (
      j,
      in_text,
      elim (byte_place-cases size offset j behind before (omega arith)) [
        | inl low ↦ omega (arith, low.1)
        | inr high ↦ absurd (omega arith)
      ],
    )

-- a sector of the ring that comes round is touched
touched_round : (size offset count sector : ℕ) → size % 512 ≡ 0 → 1536 ≤ size → 512 ≤ offset → offset < size → 1 ≤ count
    → count ≤ size - 512
    → 1 ≤ sector → sector + sectors_to_end size offset ≤ touched_count size offset count → Touches size offset count sector
touched_round size offset count sector whole big behind before some short from within =
    let j : ℕ = 512 * sector + (size - 512) - offset in
    let in_text : j < count = omega arith in (
      j,
      in_text,
      elim (byte_place-cases size offset j behind before (omega arith)) [
        | inl low ↦ absurd (omega arith)
        | inr high ↦ omega (arith, high.1)
      ],
    )

-- a touched sector comes from the text's first one on, or round
touched_where : (size offset count sector : ℕ) → size % 512 ≡ 0 → 1536 ≤ size → 512 ≤ offset → offset < size → 1 ≤ count
    → count ≤ size - 512 → Touches size offset count sector
    → ((offset / 512 ≤ sector) × (sector < size / 512) × (sector - offset / 512 < touched_count size offset count))
    ⊎ ((1 ≤ sector) × (sector + sectors_to_end size offset ≤ touched_count size offset count))
touched_where size offset count sector whole big behind before some short is =
    let here : byte_place size offset is.0 / 512 ≡ sector = is.2 in
    let in_text : is.0 < count = is.1 in
    elim (byte_place-cases size offset is.0 behind before (omega arith)) [
      | inl low ↦ inl (omega arith, omega arith, omega arith)
      | inr high ↦
          elim (cases_order sector (offset / 512)) [
            | inl same ↦ inl (omega arith, omega arith, omega arith)
            | inr apart ↦ inr (omega arith, omega arith)
          ]
    ]

-- the sectors, in order, where they come round
pub order_round : (area : Area) (offset count : ℕ) → IsArea area → 512 ≤ offset → offset < area.size
    → sectors_to_end area.size offset < touched_count area.size offset count → (k : ℕ) → k < touched_count area.size offset count
    → nth_sector (
      span_of_area area (offset / 512) (min (touched_count area.size offset count) (sectors_to_end area.size offset)),
      Some (span_of_area area 1 (touched_count area.size offset count - sectors_to_end area.size offset)),
    ) k
    ≡ area.start / 512 + ring_sector area.size offset k
order_round area offset count good behind before round k within =
    let all : ℕ = touched_count area.size offset count in
    let to_end : ℕ = sectors_to_end area.size offset in
    let big : 1536 ≤ area.size = good.has_ring in
    let whole : area.size % 512 ≡ 0 = good.size_is_whole in
    elim (ring_sector-cases area.size offset k whole big behind before (omega arith)) [
      | inl low ↦ cond-true (nat_lt k (min all to_end)) _ _ (lt-ltb k (min all to_end) (omega arith)) ∙ omega arith
      | inr high ↦ cond-false (nat_lt k (min all to_end)) _ _ (le-ltb k (min all to_end) (omega arith)) ∙ omega arith
    ]

-- the sectors that are covered, where they come round
pub cover_round : (area : Area) (offset count : ℕ) → IsArea area → 512 ≤ offset → offset < area.size → 1 ≤ count → count ≤ area.size - 512
    → sectors_to_end area.size offset < touched_count area.size offset count → (pv sector : ℕ)
    → IsTrue (spans_cover (
      span_of_area area (offset / 512) (min (touched_count area.size offset count) (sectors_to_end area.size offset)),
      Some (span_of_area area 1 (touched_count area.size offset count - sectors_to_end area.size offset)),
    ) pv sector)
    ↔ IsTouched area offset count pv sector
cover_round area offset count good behind before some short round pv sector =
    let all : ℕ = touched_count area.size offset count in
    let to_end : ℕ = sectors_to_end area.size offset in
    let first : Span = span_of_area area (offset / 512) (min all to_end) in
    let second : Span = span_of_area area 1 (all - to_end) in
    let big : 1536 ≤ area.size = good.has_ring in
    let whole : area.size % 512 ≡ 0 = good.size_is_whole in (
      λ is. elim (or_cases (covers first pv sector) (covers second pv sector) is) [
        | inl a ↦
            let in_first : (area.pv ≡ pv) × (area.start / 512 + offset / 512 ≤ sector)
            × (sector < area.start / 512 + offset / 512 + min all to_end) = covers_tells first pv sector a in
            record {
              of_disk = sym in_first.0;
              behind_start = omega arith;
              touches =
                  touched_ahead area.size offset count (sector - area.start / 512) whole big behind before some short (omega arith)
                  (omega arith) (omega arith);
            }
        | inr b ↦
            let in_second : (area.pv ≡ pv) × (area.start / 512 + 1 ≤ sector) × (sector < area.start / 512 + 1 + (all - to_end)) =
            covers_tells second pv sector b in
            record {
              of_disk = sym in_second.0;
              behind_start = omega arith;
              touches =
                  touched_round area.size offset count (sector - area.start / 512) whole big behind before some short (omega arith)
                  (omega arith);
            }
      ],
      λ is.
          let from : area.start / 512 ≤ sector = is.behind_start in
          elim (touched_where area.size offset count (sector - area.start / 512) whole big behind before some short is.touches) [
            | inl ahead ↦ or_left (covers first pv sector) (covers second pv sector)
                (covers_from first pv sector (sym is.of_disk) (omega arith) (omega arith))
            | inr back ↦ or_right (covers first pv sector) (covers second pv sector)
                (covers_from second pv sector (sym is.of_disk) (omega arith) (omega arith))
          ],
    )

-- the sectors that are covered, where none comes round
pub cover_ahead : (area : Area) (offset count : ℕ) → IsArea area → 512 ≤ offset → offset < area.size → 1 ≤ count → count ≤ area.size - 512
    → touched_count area.size offset count ≤ sectors_to_end area.size offset → (pv sector : ℕ)
    → IsTrue (spans_cover (
      span_of_area area (offset / 512) (min (touched_count area.size offset count) (sectors_to_end area.size offset)),
      None,
    ) pv sector)
    ↔ IsTouched area offset count pv sector
cover_ahead area offset count good behind before some short straight pv sector =
    let all : ℕ = touched_count area.size offset count in
    let to_end : ℕ = sectors_to_end area.size offset in
    let first : Span = span_of_area area (offset / 512) (min all to_end) in
    let big : 1536 ≤ area.size = good.has_ring in
    let whole : area.size % 512 ≡ 0 = good.size_is_whole in (
      λ is. elim (or_cases (covers first pv sector) false is) [
        | inl a ↦
            let in_first : (area.pv ≡ pv) × (area.start / 512 + offset / 512 ≤ sector)
            × (sector < area.start / 512 + offset / 512 + min all to_end) = covers_tells first pv sector a in
            record {
              of_disk = sym in_first.0;
              behind_start = omega arith;
              touches =
                  touched_ahead area.size offset count (sector - area.start / 512) whole big behind before some short (omega arith)
                  (omega arith) (omega arith);
            }
        | inr never ↦ absurd (false≢true never)
      ],
      λ is.
          let from : area.start / 512 ≤ sector = is.behind_start in
          elim (touched_where area.size offset count (sector - area.start / 512) whole big behind before some short is.touches) [
            | inl ahead ↦ or_left (covers first pv sector) false (covers_from first pv sector (sym is.of_disk) (omega arith) (omega arith))
            | inr back ↦ absurd (omega arith)
          ],
    )
