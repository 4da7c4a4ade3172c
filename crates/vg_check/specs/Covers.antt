-- Runs that cover a volume.
use Rattle.std.specs.Prelude.{◌≡◌, ◌≤◌, ◌<◌, ◌+◌, ℕ, List, take, Contains, All}
use Rattle.meta_model.specs.declared.extent_span.ExtentSpan.{ExtentSpan}

-- the extent lies in one of the runs on what has this number
abbrev pub IsCovered : List ExtentSpan → ℕ → ℕ → Type 0
IsCovered runs on extent = (run : ExtentSpan) × Contains runs run × (run.on ≡ on) × (run.first ≤ extent) × (extent < run.first + run.count)

-- a run on it ends before
abbrev pub EndsWithin : ℕ → ℕ → ExtentSpan → Type 0
EndsWithin on end run = run.on ≡ on → run.first + run.count ≤ end

-- the first runs, so many, cover it up to here, and no further
pub record CoversTo (runs : List ExtentSpan) (on many end : ℕ) : Type 0 where
  pub covers : (extent : ℕ) → extent < end → IsCovered (take many runs) on extent
  pub ends : All (EndsWithin on end) (take many runs)
