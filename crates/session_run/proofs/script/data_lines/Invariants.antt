-- The lines so far and the rest are all of them, and the rest run.
use Rattle.std.proofs.Common.{◌≡◌, ◌++◌, true, All}
use Rattle.data_lines.specs.DataLines.{runs_beside}
use Rattle.session_run.proofs.script.data_lines.Given as goal

abbrev pub invariant-loop-line : goal.invariant-loop-line
invariant-loop-line l = record {
  run : All (λ line. runs_beside line.command ≡ true) l.line-iterator.rest.items;
  all : l.lines.items ++ l.line-iterator.rest.items ≡ l.fn.script;
}
