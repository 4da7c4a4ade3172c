-- Those that are put, and those that are left, are all; and there is room for these.
use Rattle.std.proofs.Common.{◌≡◌, ◌≤◌, ◌+◌, ◌++◌, length, map, vec_capacity, vec_len}
use Rattle.session_run.specs.Running.{unanswered}
use Rattle.session_run.proofs.running.put_unanswered.Given as goal

abbrev pub invariant-loop-line : goal.invariant-loop-line
invariant-loop-line l = record {
  all : l.answers.items ++ map unanswered l.rest.items ≡ l.fn.answers.items ++ map unanswered l.fn.lines.items;
  room : vec_len l.answers + length l.rest.items ≤ vec_capacity l.answers;
}

abbrev pub decreases-loop-line : goal.decreases-loop-line
decreases-loop-line l = length l.rest.items
