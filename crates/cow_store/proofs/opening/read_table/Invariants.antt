-- The entries of so many sectors were read.
use Rattle.std.proofs.Common.{◌≡◌, ◌*◌, ℕ, [], length, min, IfSome}
use Rattle.disk_model.specs.Since.{KeepsSectorsTold}
use Rattle.disk_model.specs.Steps.{now_after}
use Rattle.cow_store.specs.Layout.{chunks_in, lengths_of}
use Rattle.cow_store.specs.Reading.{IsReadTo}
use Rattle.cow_store.specs.Snapshot.{entry_in}
use Rattle.cow_store.specs.Writing.{Spends}
use Rattle.cow_store.proofs.opening.read_table.Given as goal

abbrev pub invariant-loop-k : goal.invariant-loop-k
invariant-loop-k g l = record {
  spends : Spends (g.V.Vols.state l.fn.vols) l.k (g.V.Vols.state l.vols);
  keeps : KeepsSectorsTold (g.V.Vols.state l.fn.vols).told [] (g.V.Vols.state l.vols).told;
  len : length l.table ≡ length l.fn.table;
  some : (read : ℕ → ℕ)
      × IsReadTo (chunks_in (lengths_of (g.V.Vols.state l.fn.vols).sizes).origin) (min (64 * l.k) (length l.fn.table)) read l.table;
  entries : IfSome (g.V.Vols.state l.fn.vols).told (λ t.
      IsReadTo (chunks_in (lengths_of (g.V.Vols.state l.fn.vols).sizes).origin) (min (64 * l.k) (length l.fn.table))
      (entry_in (now_after t.opened t.steps)) l.table);
}
