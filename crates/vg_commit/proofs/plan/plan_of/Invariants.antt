use Rattle.std.proofs.Common.{take}
use Rattle.vg_commit.specs.Plans.{IsPlan}
use Rattle.vg_commit.proofs.plan.plan_of.Given as goal

abbrev pub invariant-loop-area : goal.invariant-loop-area
invariant-loop-area l = IsPlan l.text (take l.area-index l.areas) l.plan
