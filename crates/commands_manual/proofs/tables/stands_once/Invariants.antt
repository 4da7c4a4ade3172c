use Rattle.std.proofs.Common.{◌≡◌, ◌≤◌, filter, length, take}
use Rattle.commands_manual.specs.Rows.{begins}
use Rattle.commands_manual.proofs.tables.stands_once.Given as goal

abbrev pub invariant-loop-row : goal.invariant-loop-row
invariant-loop-row l = (l.count ≡ length (filter (λ row. begins l.front row.now) (take l.row-index l.rows))) × (l.count ≤ l.row-index)
