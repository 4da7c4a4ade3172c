-- The disks so far are of the group.
use Rattle.std.proofs.Common.{All, take}
use Rattle.disk_use.specs.Uses.{IsAmong}
use Rattle.disk_use.proofs.marked.first_apart.Given as goal

abbrev pub invariant-loop-disk : goal.invariant-loop-disk
invariant-loop-disk l = All (IsAmong l.found) (take l.disk-index l.marked)
