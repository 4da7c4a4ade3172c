use Rattle.std.proofs.Common.{◌≡◌, map, take}
use Rattle.line_plans.specs.Plans.{listed_row}
use Rattle.line_plans.proofs.preparing.listed_in.Given as goal

abbrev pub invariant-loop-row : goal.invariant-loop-row
invariant-loop-row l = l.list.items ≡ map (listed_row l.group) (take l.row-index l.rows)
