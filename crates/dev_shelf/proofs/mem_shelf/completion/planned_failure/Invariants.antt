use Rattle.std.proofs.Common.{◌≡◌, drop}
use Rattle.dev_shelf.specs.Plan.{failure_of}
use Rattle.dev_shelf.proofs.mem_shelf.completion.planned_failure.Given as goal

abbrev pub invariant-loop-fail : goal.invariant-loop-fail
invariant-loop-fail l = failure_of l.fails.items l.tag ≡ failure_of (drop l.fail-index l.fails.items) l.tag
