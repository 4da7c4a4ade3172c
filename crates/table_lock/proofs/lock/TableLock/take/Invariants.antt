use Rattle.std.proofs.Common.{◌≡◌, false}
use mathlib.Core.List.{IsPrefix}
use Rattle.table_lock.specs.Seats.{parts, history, seen, has_taken, IsSeatOf}
use Rattle.table_lock.proofs.lock.TableLock.take.Given as goal

abbrev pub invariant-loop : goal.invariant-loop
invariant-loop g l = record {
  of : IsSeatOf l.self l.seat;
  same_parts : parts l.seat ≡ parts l.initial.seat;
  longer : IsPrefix (history l.initial.seat) (history l.seat);
  more_seen : IsPrefix (seen l.initial.seat) (seen l.seat);
  idle : has_taken l.seat ≡ false;
  none_missed : parts l.initial.seat ≡ 64 → history l.seat ≡ history l.initial.seat;
}
