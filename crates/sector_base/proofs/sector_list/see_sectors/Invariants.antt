-- Those so far have sectors alone.
use Rattle.std.proofs.Common.{take, List, ℕ}
use Rattle.std.specs.List.{All}
use Rattle.sector_base.specs.Sectors.{IsSector}
use Rattle.sector_base.proofs.sector_list.see_sectors.Given as goal

abbrev pub invariant-loop-sectors : goal.invariant-loop-sectors
invariant-loop-sectors l = All (λ (sectors : List (List ℕ)). All IsSector sectors) (take l.sectors-index l.disks)
