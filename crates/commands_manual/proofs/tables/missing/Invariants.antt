use Rattle.std.proofs.Common.{◌≡◌, map, take}
use Rattle.commands_manual.specs.Rows.{missing}
use Rattle.commands_manual.proofs.tables.missing.Given as goal

abbrev pub invariant-loop-row : goal.invariant-loop-row
invariant-loop-row l = map (λ row. row.now) l.found.items ≡ missing (take l.row-index l.wanted) l.rows
