-- As many more as turns were made.
use Rattle.std.proofs.Common.{◌≡◌, ◌+◌, vec_len}
use Rattle.meta_model.proofs.tables.push_runs.Given as goal

abbrev pub invariant-loop : goal.invariant-loop
invariant-loop l = vec_len l.runs ≡ vec_len l.fn.runs + l.counter
