use Rattle.std.proofs.Common.{◌≡◌, take}
use Rattle.dev_shelf.proofs.mem_shelf.copies.Given as goal

abbrev pub invariant-loop-disk : goal.invariant-loop-disk
invariant-loop-disk l = l.all.items ≡ take l.disk-index l.disks
