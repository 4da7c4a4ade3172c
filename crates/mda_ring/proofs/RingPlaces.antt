-- Places in the ring, without a remainder.
use Rattle.std.proofs.Common.{◌≡◌, ℕ, ◌+◌, ◌-◌, ◌*◌, ◌/◌, ◌%◌, ◌<◌, ◌≤◌, ◌⊎◌, inl, inr, ap, ◌∙◌, arith}
use Rattle.std.proofs.Math.Nat.{mod-eq_of_lt, mod-eq-sub-mod}
use Rattle.std.proofs.lemmas.Bool.{cases_lt}
use Rattle.mda_ring.specs.Ring.{byte_place, ring_sector, ring_sectors}

-- a remainder by a number that goes in once
pub mod-once : (x r : ℕ) → r ≤ x → x < r + r → x % r + r ≡ x
mod-once x r h k =
    let rest : x - r < r = omega arith in
    ap (λ (n : ℕ). n + r) (mod-eq-sub-mod h ∙ mod-eq_of_lt rest) ∙ omega arith

-- a number below twice the ring, as a place in the ring
pub once_round : (size x : ℕ) → 512 ≤ size → x < (size - 512) + (size - 512)
    → ((512 + x < size) × (512 + x % (size - 512) ≡ 512 + x)) ⊎ ((size ≤ 512 + x) × (512 + x % (size - 512) + (size - 512) ≡ 512 + x))
once_round size x big below =
    elim (cases_lt x (size - 512)) [
      | inl low ↦ inl (omega arith, ap (λ (n : ℕ). 512 + n) (mod-eq_of_lt low))
      | inr high ↦ inr (omega arith, omega (arith, mod-once x (size - 512) high below))
    ]

-- a byte stands behind its text's offset, or once round before it
pub byte_place-cases : (size offset j : ℕ) → 512 ≤ offset → offset < size → j ≤ size - 512
    → ((offset + j < size) × (byte_place size offset j ≡ offset + j))
    ⊎ ((size ≤ offset + j) × (byte_place size offset j + (size - 512) ≡ offset + j))
byte_place-cases size offset j behind before fits =
    elim (once_round size (offset - 512 + j) (omega arith) (omega arith)) [
      | inl low ↦ inl (omega arith, low.1 ∙ omega arith)
      | inr high ↦ inr (omega arith, high.1 ∙ omega arith)
    ]

-- the sectors of a text follow each other from its first one on, or once round before it
pub ring_sector-cases : (size offset k : ℕ) → size % 512 ≡ 0 → 1536 ≤ size → 512 ≤ offset → offset < size → k < ring_sectors size
    → ((offset / 512 + k < size / 512) × (ring_sector size offset k ≡ offset / 512 + k))
    ⊎ ((size / 512 ≤ offset / 512 + k) × (ring_sector size offset k + ring_sectors size ≡ offset / 512 + k))
ring_sector-cases size offset k whole big behind before small =
    elim (byte_place-cases size (offset - offset % 512) (512 * k) (omega arith) (omega arith) (omega arith)) [
      | inl low ↦ inl (omega arith, omega (arith, low.1))
      | inr high ↦ inr (omega arith, omega (arith, high.1))
    ]
