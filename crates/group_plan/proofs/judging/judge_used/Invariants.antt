use Rattle.std.proofs.Common.{◌≡◌, drop}
use Rattle.group_plan.specs.Judging.{first_used, set_of}
use Rattle.group_plan.proofs.judging.judge_used.Given as goal

abbrev pub invariant-loop-added : goal.invariant-loop-added
invariant-loop-added l = first_used l.taken (drop l.added-index l.all) ≡ first_used (set_of l.listed) l.all
