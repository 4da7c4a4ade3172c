use Rattle.std.proofs.Common.{◌≡◌, ℕ, ◌<◌, ◌||◌, drop}
use Rattle.std.specs.FinSet as set
use Rattle.std.specs.List.{list_any}
use Rattle.extent_alloc.specs.Usable.{moves_from}
use Rattle.extent_alloc.proofs.sources.sources.Given as goal

abbrev pub invariant-loop-number : goal.invariant-loop-number
invariant-loop-number l =
    (pv : ℕ) → pv < 64 → (set.contains l.sources pv || list_any (moves_from pv) (drop l.number l.lvs)) ≡ list_any (moves_from pv) l.lvs
