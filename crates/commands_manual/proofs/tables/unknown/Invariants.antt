use Rattle.std.proofs.Common.{◌≡◌, take}
use Rattle.commands_manual.specs.Rows.{unknown}
use Rattle.commands_manual.proofs.tables.unknown.Given as goal

abbrev pub invariant-loop-row : goal.invariant-loop-row
invariant-loop-row l = l.found.items ≡ unknown l.wanted (take l.row-index l.rows)
