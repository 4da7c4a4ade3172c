use Rattle.std.proofs.Common.{◌≡◌, drop}
use Rattle.group_plan.specs.Judging.{set_of, with_all}
use Rattle.group_plan.proofs.judging.set_of.Given as goal

abbrev pub invariant-loop-number : goal.invariant-loop-number
invariant-loop-number l = with_all l.all (drop l.number-index l.numbers) ≡ set_of l.numbers
