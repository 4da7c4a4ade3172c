use Rattle.std.proofs.Common.{◌≡◌, ◌++◌, drop, map}
use Rattle.std.specs.Prelude.{filter}
use Rattle.group_plan.specs.Judging.{lies_on}
use Rattle.change_batches.specs.Batches.{clear_put}
use Rattle.change_batches.proofs.clears.clear_writes.Given as goal

abbrev pub invariant-loop-area : goal.invariant-loop-area
invariant-loop-area l =
    l.list.items ++ map clear_put (filter (lies_on l.cleared) (drop l.area-index l.areas))
    ≡ map clear_put (filter (lies_on l.cleared) l.areas)
