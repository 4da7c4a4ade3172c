use Rattle.std.proofs.Common.{drop}
use Rattle.dev_shelf.specs.RowValues.{TakesSectors, told_after}
use Rattle.dev_shelf.proofs.mem_shelf.crash_image.sectors_at.Given as goal

abbrev pub invariant-loop-sector : goal.invariant-loop-sector
invariant-loop-sector l =
    TakesSectors (told_after l.row l.moment) l.disk l.sector (drop l.fn.taken l.choices.items) l.sectors.items (drop l.taken l.choices.items)
