use Rattle.std.proofs.Common.{◌≡◌, false}
use mathlib.Core.List.{IsPrefix}
use Rattle.table_lock.specs.Seats.{parts, seen, has_taken, IsSeatOf}
use Rattle.io_session.proofs.workers.run_worker.Given as goal

abbrev pub invariant-loop : goal.invariant-loop
invariant-loop g l = record {
  of : IsSeatOf l.lock l.seat;
  idle : has_taken l.seat ≡ false;
  same_parts : parts l.seat ≡ parts l.initial.seat;
  longer : IsPrefix (seen l.initial.seat) (seen l.seat);
}
