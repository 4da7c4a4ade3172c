-- The areas so far, and those that are left.
use Rattle.std.proofs.Common.{◌≡◌, ◌||◌, ℕ, drop}
use Rattle.std.specs.BTreeSet.{contains}
use Rattle.vg_repair.specs.Stale.{area_cmp, is_among}
use Rattle.vg_repair.proofs.stale_set.StaleSet.of.Given as goal

abbrev pub invariant-loop-pv : goal.invariant-loop-pv
invariant-loop-pv l =
    (disk number : ℕ) → (contains area_cmp l.set (disk, number) || is_among (drop l.pv-index l.list) disk number)
    ≡ is_among l.list disk number
