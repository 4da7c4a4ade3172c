use Rattle.std.proofs.Common.{◌≡◌, length}
use Rattle.line_plans.proofs.preparing.tickets_for.Given as goal

abbrev pub invariant-loop : goal.invariant-loop
invariant-loop l = length l.tickets.items ≡ l.counter
