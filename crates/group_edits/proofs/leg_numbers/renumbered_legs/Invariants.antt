use Rattle.std.proofs.Common.{◌≡◌, take}
use Rattle.group_edits.specs.Renumbered.{renumbered_legs}
use Rattle.group_edits.proofs.leg_numbers.renumbered_legs.Given as goal

abbrev pub invariant-loop-leg : goal.invariant-loop-leg
invariant-loop-leg g l = l.copies.items ≡ renumbered_legs (g.N.Numbering.new_of l.numbers) (take l.leg-index l.legs)
