use Rattle.std.proofs.Common.{◌≡◌, ◌++◌, drop}
use Rattle.group_plan.specs.Added.{disks_added}
use Rattle.group_plan.proofs.joined_group.disks_with.Given as goal

abbrev pub invariant-loop-added : goal.invariant-loop-added
invariant-loop-added l = l.disks.items ++ disks_added (drop l.added-index l.all) ≡ l.listed ++ disks_added l.all
