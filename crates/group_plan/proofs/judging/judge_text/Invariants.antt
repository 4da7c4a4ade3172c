use Rattle.std.proofs.Common.{◌≡◌, drop}
use Rattle.group_plan.specs.Judging.{large_row}
use Rattle.group_plan.proofs.judging.judge_text.Given as goal

abbrev pub invariant-loop-area : goal.invariant-loop-area
invariant-loop-area l = large_row (drop l.area-index l.areas) l.disks l.size ≡ large_row l.areas l.disks l.size
