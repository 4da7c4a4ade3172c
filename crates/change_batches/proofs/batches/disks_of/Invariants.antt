use Rattle.std.proofs.Common.{◌≡◌, drop}
use Rattle.group_plan.specs.Judging.{set_of, with_all}
use Rattle.change_batches.specs.Building.{disks_written}
use Rattle.change_batches.proofs.batches.disks_of.Given as goal

abbrev pub invariant-loop-span : goal.invariant-loop-span
invariant-loop-span l = with_all l.disks (disks_written (drop l.span-index l.list)) ≡ set_of (disks_written l.list)
