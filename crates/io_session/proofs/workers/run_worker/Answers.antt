use Rattle.std.proofs.Common.{subst, sym}
use mathlib.Core.List.{IsPrefix}
use Rattle.table_lock.specs.Seats.{seen}
use Rattle.table_lock.proofs.Prefixes.{prefix_trans}
use Rattle.io_session.proofs.workers.run_worker.Goals.{in-None, in-Some+in-Finished}
use Rattle.io_session.proofs.workers.run_worker.Goals as goal

pub returns-clause-seen : goal.returns-clause-seen
returns-clause-seen g c = elim c.match-next.branch [
  | in-None w ↦ subst (λ s. IsPrefix (seen c.args.seat) (seen s)) (sym w.seat-is) c.loop.invariant.longer
  | in-Some+in-Finished w ↦ subst (λ s. IsPrefix (seen c.args.seat) (seen s)) (sym w.seat-is)
      (prefix_trans _ _ _ c.loop.invariant.longer w.step_under_lock.ensures.seen)
]
