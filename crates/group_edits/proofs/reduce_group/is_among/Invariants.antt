use Rattle.std.proofs.Common.{◌≡◌, drop}
use Rattle.std.specs.List.{list_any}
use Rattle.group_edits.specs.ReducedGroup.{leg_is_on_pv}
use Rattle.group_edits.proofs.reduce_group.is_among.Given as goal

abbrev pub invariant-loop-leg : goal.invariant-loop-leg
invariant-loop-leg l = list_any (leg_is_on_pv l.number) (drop l.leg-index l.legs) ≡ list_any (leg_is_on_pv l.number) l.legs
