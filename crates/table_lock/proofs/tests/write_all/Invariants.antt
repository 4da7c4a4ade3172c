use Rattle.std.proofs.Common.{◌≡◌, false}
use Rattle.table_lock.specs.Seats.{has_taken, parts, IsSeatOf}
use Rattle.table_lock.proofs.tests.write_all.Given as goal

abbrev pub invariant-loop-number : goal.invariant-loop-number
invariant-loop-number g l = record {
  of : IsSeatOf l.lock l.seat;
  idle : has_taken l.seat ≡ false;
  same_parts : parts l.seat ≡ parts l.initial.seat;
}
