-- How many segments logical volumes have.
use Rattle.std.specs.Prelude.{◌≤◌, ℕ, List, length, sum_by, All}
use Rattle.meta_model.specs.declared.lv.Lv.{Lv}

-- each of the volumes has a segment, and all together have no more than are allowed
abbrev pub HasFewSegments : List (List ℕ × Lv) → Type 0
HasFewSegments lvs =
    (sum_by (λ (lv : List ℕ × Lv). length lv.1.segments) lvs ≤ 16384) × All (λ (lv : List ℕ × Lv). 1 ≤ length lv.1.segments) lvs
