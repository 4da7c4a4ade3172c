use Rattle.std.proofs.Common.{◌≡◌, ◌-◌, map}
use Rattle.std.specs.List.{range_with_len}
use Rattle.data_lines.specs.DataLines.{value_for}
use Rattle.data_lines.proofs.contents.contents_for.Given as goal

abbrev pub invariant-loop-at : goal.invariant-loop-at
invariant-loop-at l = l.list.items ≡ map (value_for l.command) (range_with_len l.first (l.at - l.first))
