-- None of those so far does.
use Rattle.std.proofs.Common.{◌≡◌, drop}
use Rattle.std.specs.List.{list_any}
use Rattle.lvm_report.specs.Marks.{leg_is_marked}
use Rattle.lvm_report.proofs.moving.lies_on_marked.Given as goal

abbrev pub invariant-loop-leg : goal.invariant-loop-leg
invariant-loop-leg l = list_any (leg_is_marked l.marked) l.legs ≡ list_any (leg_is_marked l.marked) (drop l.leg-index l.legs)
