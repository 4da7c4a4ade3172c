use Rattle.std.proofs.Common.{take}
use Rattle.std.specs.Prelude.{All}
use Rattle.vg_check.specs.Outside.{LegLiesInside}
use Rattle.vg_check.proofs.legs.legs_lie_inside.Given as goal

abbrev pub invariant-loop-leg : goal.invariant-loop-leg
invariant-loop-leg l = All (LegLiesInside l.group l.segment) (take l.leg-index l.leg-items)
