-- The disks so far, and those of the areas that are left.
use Rattle.std.proofs.Common.{◌≡◌, ℕ, ◌||◌, drop}
use Rattle.std.specs.FinSet as set
use Rattle.std.specs.List.{list_any}
use Rattle.vg_found.specs.StaleAreas.{is_on}
use Rattle.vg_found.proofs.stale.stale_disks.Given as goal

abbrev pub invariant-loop-disk : goal.invariant-loop-disk
invariant-loop-disk l =
    (pv : ℕ) → (set.contains l.disks pv || list_any (is_on pv) (drop l.disk-index l.stale)) ≡ list_any (is_on pv) l.stale
