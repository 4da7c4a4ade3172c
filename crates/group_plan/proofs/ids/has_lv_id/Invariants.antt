use Rattle.std.proofs.Common.{◌≡◌, ℕ, List, drop}
use Rattle.std.specs.List.{list_any}
use Rattle.std.specs.Str.{bytes_eq}
use Rattle.meta_model.specs.declared.lv.Lv.{Lv}
use Rattle.group_plan.specs.Ids.{has_lv_id}
use Rattle.group_plan.proofs.ids.has_lv_id.Given as goal

abbrev pub invariant-loop-number : goal.invariant-loop-number
invariant-loop-number l = list_any (λ (lv : List ℕ × Lv). bytes_eq lv.1.id l.id) (drop l.number l.group.lvs) ≡ has_lv_id l.group l.id
