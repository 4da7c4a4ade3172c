use Rattle.vg_check.specs.Ids.{IsNumbered}
use Rattle.vg_check.proofs.block.number_block.Given as goal

abbrev pub invariant-loop-i : goal.invariant-loop-i
invariant-loop-i l = IsNumbered l.from l.i l.block
