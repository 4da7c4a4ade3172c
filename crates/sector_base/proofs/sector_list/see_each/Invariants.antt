-- Those so far are sectors.
use Rattle.std.proofs.Common.{take}
use Rattle.std.specs.List.{All}
use Rattle.sector_base.specs.Sectors.{IsSector}
use Rattle.sector_base.proofs.sector_list.see_each.Given as goal

abbrev pub invariant-loop-sector : goal.invariant-loop-sector
invariant-loop-sector l = All IsSector (take l.sector-index l.list)
