use Rattle.dev_shelf.specs.DiskRow.{sizes_of}
use Rattle.std.proofs.Common.{drop}
use Rattle.dev_shelf.specs.RowValues.{TakesDisks, told_after}
use Rattle.dev_shelf.proofs.mem_shelf.crash_image.disks_at.Given as goal

abbrev pub invariant-loop-disk : goal.invariant-loop-disk
invariant-loop-disk l =
    TakesDisks (told_after l.row l.moment) (sizes_of l.row) l.disk l.choices.items l.disks.items (drop l.taken l.choices.items)
