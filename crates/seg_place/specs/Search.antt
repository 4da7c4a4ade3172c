-- What halving a list of segments finds.
use Rattle.std.specs.Prelude.{◌≡◌, ◌≤◌, ◌<◌, ℕ, ◌+◌, ◌-◌, ◌*◌, ◌^◌, List, Some, slice_get}
use Rattle.meta_model.specs.declared.segment.Segment.{Segment}

-- the segment with this number has the extent
abbrev pub HasExtent : List Segment → ℕ → ℕ → Type 0
HasExtent segments extent number =
    (segment : Segment) × (slice_get segments number ≡ Some segment) × (segment.start ≤ extent) × (extent < segment.start + segment.count)

-- from one count of steps to another there are d steps, 2^d being at most 2m + 1
pub record Halves (m from to : ℕ) : Type 0 where
  pub taken : from ≤ to
  pub few : 2 ^ (to - from) ≤ 2 * m + 1
