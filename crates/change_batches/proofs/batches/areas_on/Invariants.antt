use Rattle.std.proofs.Common.{◌≡◌, ◌++◌, drop}
use Rattle.change_batches.specs.Building.{areas_on}
use Rattle.change_batches.proofs.batches.areas_on.Given as goal

abbrev pub invariant-loop-area : goal.invariant-loop-area
invariant-loop-area l = l.list.items ++ areas_on l.disks (drop l.area-index l.areas) ≡ areas_on l.disks l.areas
