use Rattle.std.proofs.Common.{take}
use Rattle.std.specs.Prelude.{All}
use Rattle.meta_model.specs.declared.segment.Leg.{Leg}
use Rattle.vg_check.specs.Hidden.{OnIsHidden}
use Rattle.vg_check.proofs.depth.legs_hide.Given as goal

abbrev pub invariant-loop-leg : goal.invariant-loop-leg
invariant-loop-leg l = All (λ (leg : Leg). OnIsHidden l.group leg.on) (take l.leg-index l.legs)
