use Rattle.std.proofs.Common.{◌≡◌, drop}
use Rattle.std.specs.Prelude.{find}
use Rattle.group_plan.specs.Judging.{is_small}
use Rattle.group_plan.proofs.judging.judge_sizes.Given as goal

abbrev pub invariant-loop-added : goal.invariant-loop-added
invariant-loop-added l = find (is_small l.extent_size) (drop l.added-index l.all) ≡ find (is_small l.extent_size) l.all
