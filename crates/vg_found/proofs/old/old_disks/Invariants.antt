use Rattle.std.proofs.Common.{◌≡◌, drop}
use Rattle.std.specs.FinSet as set
use Rattle.vg_found.specs.Disks.{old_among}
use Rattle.vg_found.proofs.old.old_disks.Given as goal

abbrev pub invariant-loop-at : goal.invariant-loop-at
invariant-loop-at l = l.old ≡ set.from_list (old_among l.disks (drop l.at l.numbers))
