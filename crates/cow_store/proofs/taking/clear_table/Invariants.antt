-- So many sectors have zeros.
use Rattle.std.proofs.Common.{true}
use Rattle.disk_model.specs.Since.{BetweenRecords}
use Rattle.cow_store.specs.Writing.{Spends}
use Rattle.cow_store.proofs.Clearing.{WritesZeros}
use Rattle.cow_store.proofs.taking.clear_table.Given as goal

abbrev pub invariant-loop-k : goal.invariant-loop-k
invariant-loop-k g l = record {
  told : BetweenRecords (λ t t'. WritesZeros l.k true t t') (g.V.Vols.state l.fn.vols).told (g.V.Vols.state l.vols).told;
  spends : Spends (g.V.Vols.state l.fn.vols) l.k (g.V.Vols.state l.vols);
}
