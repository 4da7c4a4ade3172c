use Rattle.std.proofs.Common.{◌≡◌, ℕ, ◌<◌}
use Rattle.vg_check.specs.Climbing.{told, counted}
use Rattle.vg_check.proofs.climb.settle.Given as goal

abbrev pub invariant-loop-i : goal.invariant-loop-i
invariant-loop-i l = record {
  done : (lv : ℕ) → lv < l.i → told l.numbers lv ≡ counted l.fn.numbers lv;
  left : (lv : ℕ) → counted l.numbers lv ≡ counted l.fn.numbers lv;
}
