-- Two legs with stripes of 16 sectors, and a thousand segments.
use Rattle.std.proofs.Common.{◌≡◌, ℕ, ◌+◌, ◌-◌, ◌^◌, ◌≤◌, List, [], ◌∷◌, map, inl, inr, refl, arith}
use Rattle.std.proofs.Math.Pow.{pow_mono}
use Rattle.std.proofs.lemmas.Bool.{cases_lt}
use Rattle.volume_view.specs.InSegments.{stripe_leg, stripe_offset}
use Rattle.seg_place.specs.Search.{Halves}

-- the legs in which sectors around the ends of stripes stand, and how far into them
stripes : List ℕ
stripes = 15 ∷ 16 ∷ 17 ∷ 31 ∷ 32 ∷ []

their_legs : map (stripe_leg 16 2) stripes ≡ 0 ∷ 1 ∷ 1 ∷ 1 ∷ 0 ∷ []
unfolding stripes
their_legs = refl

their_offsets : map (stripe_offset 16 2) stripes ≡ 15 ∷ 0 ∷ 1 ∷ 15 ∷ 16 ∷ []
unfolding stripes
their_offsets = refl

-- a thousand segments take ten steps at most
pub ten_steps : (from to : ℕ) → Halves 1000 from to → to ≤ from + 10
ten_steps from to halves = elim (cases_lt (to - from) 11) [
  | inl few ↦ omega (arith, halves.taken)
  | inr many ↦ let less : 2 ^ 11 ≤ 2 ^ (to - from) = pow_mono many in absurd (omega (arith, halves.few))
]
