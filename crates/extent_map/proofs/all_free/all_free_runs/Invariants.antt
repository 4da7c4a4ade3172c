use Rattle.std.proofs.Common.{◌≡◌, ℕ, ◌≤◌, ◌<◌, Some, slice_get}
use Rattle.extent_map.specs.ByVolume.{lists_of}
use Rattle.extent_map.specs.Covered.{lvs_on}
use Rattle.extent_map.proofs.AllFree.{AreFreeBelow}
use Rattle.extent_map.proofs.all_free.all_free_runs.Given as goal

abbrev pub invariant-loop-pv : goal.invariant-loop-pv
invariant-loop-pv l =
    AreFreeBelow l.group l.pv l.all.items × ((pv : ℕ) → l.pv ≤ pv → pv < l.count
    → slice_get (lists_of l.buckets.items) pv ≡ Some (lvs_on pv l.group.lvs))
