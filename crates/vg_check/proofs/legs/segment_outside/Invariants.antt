use Rattle.std.proofs.Common.{take}
use Rattle.std.specs.Prelude.{All}
use Rattle.vg_check.specs.Outside.{LegsLieInside}
use Rattle.vg_check.proofs.legs.segment_outside.Given as goal

abbrev pub invariant-loop-number : goal.invariant-loop-number
invariant-loop-number l = All (LegsLieInside l.group) (take l.number l.segments)
