-- The extents of a physical volume that lie in no leg.
use Rattle.std.specs.Prelude.{◌≡◌, ◌≤◌, ◌<◌, ◌↔◌, ℕ, ◌+◌, List, Some, slice_get, All, Contains, length}
use Rattle.std.specs.List.{AllAdjacentBelow}
use Rattle.meta_model.specs.declared.group.Group.{Group}
use Rattle.meta_model.specs.declared.pv.Pv.{Pv}
use Rattle.meta_model.specs.declared.segment.On.TheVariants as on
use Rattle.volume_rules.specs.Legs.{IsUsed}
use Rattle.extent_map.specs.declared.extent_run.ExtentRun.{ExtentRun}

-- the physical volume with this number has the extent, and no leg lies on it
abbrev pub IsFree : Group → ℕ → ℕ → Type 0
IsFree group pv extent =
    ((row : List ℕ × Pv) × (slice_get group.pvs pv ≡ Some row) × (extent < row.1.pe_count)) × (IsUsed group (on.Pv pv) extent → ⊥)

-- the extent lies in one of these runs
abbrev pub LiesIn : List ExtentRun → ℕ → Type 0
LiesIn runs extent = (run : ExtentRun) × Contains runs run × (run.first ≤ extent) × (extent < run.first + run.count)

-- these are the longest runs of free extents, in order: between two of them lies an extent that is used
pub record AreFreeRuns (group : Group) (pv : ℕ) (runs : List ExtentRun) : Type 0 where
  pub some : All (λ run. 1 ≤ run.count) runs
  pub free : (extent : ℕ) → LiesIn runs extent ↔ IsFree group pv extent
  pub apart : AllAdjacentBelow (λ (a b : ExtentRun). a.first + a.count < b.first) runs (length runs)
