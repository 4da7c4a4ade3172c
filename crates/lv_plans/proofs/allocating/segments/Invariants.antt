use Rattle.std.proofs.Common.{◌≡◌, ℕ, List, length, sum_by, take}
use Rattle.meta_model.specs.declared.lv.Lv.{Lv}
use Rattle.lv_plans.proofs.allocating.segments.Given as goal

abbrev pub invariant-loop-number : goal.invariant-loop-number
invariant-loop-number l = l.count ≡ sum_by (λ (row : List ℕ × Lv). length row.1.segments) (take l.number l.group.lvs)
