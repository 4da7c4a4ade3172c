use Rattle.std.proofs.Common.{◌≡◌, ℕ, ◌<◌}
use Rattle.vg_check.specs.Climbing.{told}
use Rattle.vg_check.proofs.climb.clear.Given as goal

abbrev pub invariant-loop-i : goal.invariant-loop-i
invariant-loop-i l = (lv : ℕ) → lv < l.i → told l.numbers lv ≡ 0
