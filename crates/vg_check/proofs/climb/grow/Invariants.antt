use Rattle.vg_check.specs.Climbing.{HasGrown}
use Rattle.vg_check.proofs.climb.grow.Given as goal

abbrev pub invariant-loop-number : goal.invariant-loop-number
invariant-loop-number l = HasGrown l.group l.climb l.fn.numbers l.numbers l.number
