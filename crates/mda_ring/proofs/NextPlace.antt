-- The next text's place lies in the ring, and beside the committed text.
use Rattle.std.proofs.Common.{◌≡◌, ℕ, ◌+◌, ◌-◌, ◌*◌, ◌/◌, ◌%◌, ◌<◌, ◌≤◌, min, Option, None, Some, ◌⊎◌, inl, inr, sym, ◌∙◌, arith}
use Rattle.mda_header.specs.Header.{IsInside}
use Rattle.mda_header.specs.HeaderBytes.{IsNoneOrInside}
use Rattle.mda_header.specs.declared.header.Locn.{Locn}
use Rattle.mda_ring.specs.declared.place.Place.{Place}
use Rattle.mda_ring.specs.NextPlace.{IsApart, IsInRing, IsNext}
use Rattle.mda_ring.specs.Ring.{byte_place, need, next_offset, ring_sectors, room}
use Rattle.mda_ring.proofs.RingPlaces.{byte_place-cases, once_round}

-- the next text begins where the committed one's last sector ends, or once round before that
next_offset-cases : (size : ℕ) (text : Locn) → size % 512 ≡ 0 → 1536 ≤ size → IsInside size text → 1 ≤ room size (Some text)
    → (next_offset size (Some text) ≡ 512 * need (text.offset + text.size))
    ⊎ (next_offset size (Some text) + (size - 512) ≡ 512 * need (text.offset + text.size))
next_offset-cases size text whole big inside left =
    let behind : 512 ≤ text.offset = inside.behind_header in
    let before : text.offset < size = inside.before_end in
    let short : text.size ≤ size - 512 = inside.has_room in
    elim (once_round size (512 * need (text.offset + text.size) - 512) (omega arith) (omega arith)) [
      | inl low ↦ inl (low.1 ∙ omega arith)
      | inr high ↦ inr (high.1 ∙ omega arith)
    ]

-- the next place lies in the ring
pub in_ring : (size : ℕ) (committed : Option Locn) (count : ℕ) (place : Place) → size % 512 ≡ 0 → 1536 ≤ size
    → IsNoneOrInside size committed → 1 ≤ count → IsNext size committed count place → IsInRing size place
in_ring size None count place whole big inside some is =
    let begins : place.offset ≡ 512 = is.offset_is in
    let left : need count ≤ ring_sectors size = is.has_room in
    let long : place.sectors ≡ need count = is.sectors_is in
    record { is_whole = omega arith; behind_header = omega arith; before_end = omega arith; fits = omega arith }
in_ring size (Some text) count place whole big inside some is =
    let begins : place.offset ≡ next_offset size (Some text) = is.offset_is in
    let left : need count ≤ room size (Some text) = is.has_room in
    let long : place.sectors ≡ need count = is.sectors_is in
    let behind : 512 ≤ text.offset = inside.behind_header in
    let before : text.offset < size = inside.before_end in
    let short : text.size ≤ size - 512 = inside.has_room in
    elim (next_offset-cases size text whole big inside (omega arith)) [
      | inl low ↦ record { is_whole = omega arith; behind_header = omega arith; before_end = omega arith; fits = omega arith }
      | inr high ↦ record { is_whole = omega arith; behind_header = omega arith; before_end = omega arith; fits = omega arith }
    ]

-- a sector's place that a byte of the next text and one of the committed text share
shared : (size offset count next sectors j k p q : ℕ) → size % 512 ≡ 0 → 1536 ≤ size → 512 ≤ offset → offset < size → 0 < count
    → count ≤ size - 512
    → 1 ≤ sectors → sectors + min (ring_sectors size) (need (offset + count) - offset / 512) ≤ ring_sectors size
    → (next ≡ 512 * need (offset + count)) ⊎ (next + (size - 512) ≡ 512 * need (offset + count))
    → j < 512 * sectors → k < count
    → ((next + j < size) × (p ≡ next + j)) ⊎ ((size ≤ next + j) × (p + (size - 512) ≡ next + j))
    → ((offset + k < size) × (q ≡ offset + k)) ⊎ ((size ≤ offset + k) × (q + (size - 512) ≡ offset + k))
    → p / 512 ≡ q / 512 → ⊥
shared size offset count next sectors j k p q whole big behind before some short one left (inl n) in_next in_text (inl a) (inl b) same =
    omega arith
shared size offset count next sectors j k p q whole big behind before some short one left (inl n) in_next in_text (inl a) (inr b) same =
    omega arith
shared size offset count next sectors j k p q whole big behind before some short one left (inl n) in_next in_text (inr a) (inl b) same =
    omega arith
shared size offset count next sectors j k p q whole big behind before some short one left (inl n) in_next in_text (inr a) (inr b) same =
    omega arith
shared size offset count next sectors j k p q whole big behind before some short one left (inr n) in_next in_text (inl a) (inl b) same =
    omega arith
shared size offset count next sectors j k p q whole big behind before some short one left (inr n) in_next in_text (inl a) (inr b) same =
    omega arith
shared size offset count next sectors j k p q whole big behind before some short one left (inr n) in_next in_text (inr a) (inl b) same =
    omega arith
shared size offset count next sectors j k p q whole big behind before some short one left (inr n) in_next in_text (inr a) (inr b) same =
    omega arith

-- the next text and the committed one touch no sector both
pub apart : (size : ℕ) (committed : Option Locn) (count : ℕ) (place : Place) → size % 512 ≡ 0 → 1536 ≤ size → IsNoneOrInside size committed
    → 1 ≤ count → IsNext size committed count place → IsApart size committed place
apart size None count place whole big inside some is = tt
apart size (Some text) count place whole big inside some is = λ sector next old.
    let ring : IsInRing size place = in_ring size (Some text) count place whole big inside some is in
    let behind : 512 ≤ place.offset = ring.behind_header in
    let before : place.offset < size = ring.before_end in
    let left : need count ≤ room size (Some text) = is.has_room in
    let long : place.sectors ≡ need count = is.sectors_is in
    let fits : 512 * place.sectors ≤ size - 512 = ring.fits in
    let begins : place.offset ≡ next_offset size (Some text) = is.offset_is in
    let short : text.size ≤ size - 512 = inside.has_room in
    let starts : (place.offset ≡ 512 * need (text.offset + text.size))
    ⊎ (place.offset + (size - 512) ≡ 512 * need (text.offset + text.size)) =
    elim (next_offset-cases size text whole big inside (omega arith)) [ inl low ↦ inl (begins ∙ low) | inr high ↦ inr (omega arith) ]
    in
    shared size text.offset text.size place.offset place.sectors next.0 old.0 (byte_place size place.offset next.0)
    (byte_place size text.offset old.0)
    whole big inside.behind_header inside.before_end inside.has_bytes inside.has_room (omega arith) (omega arith) starts next.1 old.1
    (byte_place-cases size place.offset next.0 behind before (omega (arith, next.1)))
    (byte_place-cases size text.offset old.0 inside.behind_header inside.before_end (omega (arith, old.1)))
    (next.2 ∙ sym old.2)
