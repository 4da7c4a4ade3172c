use Rattle.std.proofs.Common.{◌≡◌, replicate}
use Rattle.sector_base.proofs.sector_list.Sectors.zeroed.Given as goal

abbrev pub invariant-loop : goal.invariant-loop
invariant-loop l = record { zeros : l.zero ≡ replicate 512 0; list : l.list.items ≡ replicate l.counter l.zero }
