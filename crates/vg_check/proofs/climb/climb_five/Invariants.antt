use Rattle.vg_check.specs.Climbing.{HasClimbed}
use Rattle.vg_check.proofs.climb.climb_five.Given as goal

abbrev pub invariant-loop-round : goal.invariant-loop-round
invariant-loop-round l = HasClimbed l.group l.climb l._round l.numbers
