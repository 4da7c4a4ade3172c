-- So many sectors were copied.
use Rattle.std.proofs.Common.{◌*◌, true}
use Rattle.disk_model.specs.Since.{BetweenRecords}
use Rattle.cow_store.specs.Layout.{lengths_of}
use Rattle.cow_store.specs.Writing.{CopiesSectors, Spends}
use Rattle.cow_store.proofs.saving.copy_chunk.Given as goal

abbrev pub invariant-loop-k : goal.invariant-loop-k
invariant-loop-k g l = record {
  told : BetweenRecords (λ t t'. CopiesSectors (lengths_of (g.V.Vols.state l.fn.vols).sizes) l.from l.to l.k true t t')
      (g.V.Vols.state l.fn.vols).told (g.V.Vols.state l.vols).told;
  spends : Spends (g.V.Vols.state l.fn.vols) (2 * l.k) (g.V.Vols.state l.vols);
}
