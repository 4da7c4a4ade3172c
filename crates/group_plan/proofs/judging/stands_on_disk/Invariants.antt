use Rattle.std.proofs.Common.{◌≡◌, drop}
use Rattle.group_plan.specs.Judging.{stands_on_disk}
use Rattle.group_plan.proofs.judging.stands_on_disk.Given as goal

abbrev pub invariant-loop-disk : goal.invariant-loop-disk
invariant-loop-disk l = stands_on_disk l.id (drop l.disk-index l.disks) ≡ stands_on_disk l.id l.disks
