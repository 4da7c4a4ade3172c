-- The first extents of a volume's segments.
use Rattle.std.proofs.Common.{◌≡◌, ◌≤◌, ◌<◌, ℕ, zero, suc, ◌+◌, ◌-◌, Bool, true, false, cond, List, [], ◌∷◌, length, refl, arith}
use Rattle.std.specs.Prelude.{nat_le, sum_by}
use Rattle.std.specs.List.{AllByRecursion as Each}
use Rattle.std.proofs.lemmas.Bool.Decides.{nat_tests}
use Rattle.std.proofs.lemmas.List.Sums.{sum_by-cons}
use Rattle.meta_model.specs.declared.segment.Segment.{Segment}
use Rattle.volume_rules.specs.Rules.{Follow, IsWholeStriped}
use Rattle.group_edits.proofs.KeptExtents.{IsShared, whole_striped}
use Rattle.group_edits.specs.ShortenedVolume.{front_of, kept_of, whole_stripes}

pub le_by : (a b : ℕ) → nat_le a b ≡ true → a ≤ b
le_by a b is = grind (arith, nat_tests, is)

pub lt_by : (a b : ℕ) → nat_le a b ≡ false → b < a
lt_by a b is = grind (arith, nat_tests, is)

-- the first so many extents of a segment
abbrev pub cut : Segment → ℕ → Segment
cut segment count = record segment { count = count }

module _ (P : Segment → Type 0) (step : (segment : Segment) (count : ℕ) → P segment → count ≤ segment.count → P (cut segment count)) where
  -- what holds of each segment, and of one that is cut
  pub each_front : (segments : List Segment) (left : ℕ) → Each P segments → Each P (front_of segments left)
  each_front [] left all = tt
  each_front (segment ∷ segments) zero all = tt
  each_front (segment ∷ segments) (suc count) all =
      by (nat_le (suc count) segment.count) refl (each_front segments (suc count - segment.count) all.1) where
        by : (b : Bool) → nat_le (suc count) segment.count ≡ b → Each P (front_of segments (suc count - segment.count))
            → Each P (cond b (cut segment (suc count) ∷ []) (segment ∷ front_of segments (suc count - segment.count)))
        by true is later = (step segment (suc count) all.0 (le_by (suc count) segment.count is), tt)
        by false is later = (all.0, later)

pub follow_front : (at : ℕ) (segments : List Segment) (left : ℕ) → Follow at segments → Follow at (front_of segments left)
follow_front at [] left follow = tt
follow_front at (segment ∷ segments) zero follow = tt
follow_front at (segment ∷ segments) (suc count) follow =
    by (nat_le (suc count) segment.count) (follow_front (at + segment.count) segments (suc count - segment.count) follow.2) where
      by : (b : Bool) → Follow (at + segment.count) (front_of segments (suc count - segment.count))
          → Follow at (cond b (cut segment (suc count) ∷ []) (segment ∷ front_of segments (suc count - segment.count)))
      by true later = (follow.0, omega arith, tt)
      by false later = (follow.0, follow.1, later)

pub fewer_extents : (segments : List Segment) (left : ℕ)
    → sum_by (λ (s : Segment). s.count) (front_of segments left) ≤ sum_by (λ (s : Segment). s.count) segments
fewer_extents [] left = omega arith
fewer_extents (segment ∷ segments) zero = omega arith
fewer_extents (segment ∷ segments) (suc count) =
    by (nat_le (suc count) segment.count) refl (fewer_extents segments (suc count - segment.count)) where
      by : (b : Bool) → nat_le (suc count) segment.count ≡ b
          → sum_by (λ (s : Segment). s.count) (front_of segments (suc count - segment.count)) ≤ sum_by (λ (s : Segment). s.count) segments
          → sum_by (λ (s : Segment). s.count) (cond b (cut segment (suc count) ∷ [])
          (segment ∷ front_of segments (suc count - segment.count)))
          ≤ sum_by (λ (s : Segment). s.count) (segment ∷ segments)
      by true is later =
          let less : suc count ≤ segment.count = le_by (suc count) segment.count is in
          let one = sum_by-cons (λ (s : Segment). s.count) (cut segment (suc count)) [] in
          let all = sum_by-cons (λ (s : Segment). s.count) segment segments in
          omega (arith, less, one, all)
      by false is later =
          let one = sum_by-cons (λ (s : Segment). s.count) segment (front_of segments (suc count - segment.count)) in
          let all = sum_by-cons (λ (s : Segment). s.count) segment segments in
          omega (arith, later, one, all)

pub fewer_segments : (segments : List Segment) (left : ℕ) → length (front_of segments left) ≤ length segments
fewer_segments [] left = omega arith
fewer_segments (segment ∷ segments) zero = omega arith
fewer_segments (segment ∷ segments) (suc count) =
    by (nat_le (suc count) segment.count) (fewer_segments segments (suc count - segment.count)) where
      by : (b : Bool) → length (front_of segments (suc count - segment.count)) ≤ length segments
          → length (cond b (cut segment (suc count) ∷ []) (segment ∷ front_of segments (suc count - segment.count)))
          ≤ length (segment ∷ segments)
      by true later = omega arith
      by false later = omega (arith, later)

pub some_segment : (segments : List Segment) (left : ℕ) → 1 ≤ left → 1 ≤ length segments → 1 ≤ length (front_of segments left)
some_segment [] left some there = absurd (omega (arith, there))
some_segment (segment ∷ segments) zero some there = absurd (omega (arith, some))
some_segment (segment ∷ segments) (suc count) some there = by (nat_le (suc count) segment.count) where
  by : (b : Bool) → 1 ≤ length (cond b (cut segment (suc count) ∷ []) (segment ∷ front_of segments (suc count - segment.count)))
  by true = omega arith
  by false = omega arith

-- where so many end with a whole stripe
pub stripes_front : (size : ℕ) (segments : List Segment) (left : ℕ) → kept_of segments left ≡ left → Each (IsShared size) segments
    → Each (λ (s : Segment). IsWholeStriped size s.count s.kind) (front_of segments left)
stripes_front size [] left whole shared = tt
stripes_front size (segment ∷ segments) zero whole shared = tt
stripes_front size (segment ∷ segments) (suc count) whole shared =
    by (nat_le (suc count) segment.count) refl whole (λ later. stripes_front size segments (suc count - segment.count) later shared.1) where
      by : (b : Bool) → nat_le (suc count) segment.count ≡ b
          → cond b (whole_stripes (suc count) segment.kind) (segment.count + kept_of segments (suc count - segment.count)) ≡ suc count
          → (kept_of segments (suc count - segment.count) ≡ suc count - segment.count
          → Each (λ (s : Segment). IsWholeStriped size s.count s.kind) (front_of segments (suc count - segment.count)))
          → Each (λ (s : Segment). IsWholeStriped size s.count s.kind)
          (cond b (cut segment (suc count) ∷ []) (segment ∷ front_of segments (suc count - segment.count)))
      by true is kept later = (whole_striped size (suc count) segment.count segment.kind shared.0.0 kept shared.0.1, tt)
      by false is kept later = (shared.0.1, later (omega (arith, kept)))
