-- The free extents of all physical volumes.
use Rattle.std.specs.Prelude.{◌≡◌, ℕ, List, Some, length, slice_get}
use Rattle.meta_model.specs.declared.group.Group.{Group}
use Rattle.extent_map.specs.FreeRuns.{AreFreeRuns}
use Rattle.extent_map.specs.declared.extent_run.ExtentRun.{ExtentRun}

-- for each physical volume the longest runs of its free extents
pub record AreAllFree (group : Group) (all : List (List ExtentRun)) : Type 0 where
  pub count : length all ≡ length group.pvs
  pub each : (pv : ℕ) (runs : List ExtentRun) → slice_get all pv ≡ Some runs → AreFreeRuns group pv runs
