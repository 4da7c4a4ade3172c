use Rattle.std.proofs.Common.{◌≡◌, ℕ, List, drop}
use Rattle.std.specs.List.{list_any}
use Rattle.std.specs.Str.{bytes_eq}
use Rattle.meta_model.specs.declared.pv.Pv.{Pv}
use Rattle.group_plan.specs.Ids.{has_pv_id}
use Rattle.group_plan.proofs.ids.has_pv_id.Given as goal

abbrev pub invariant-loop-number : goal.invariant-loop-number
invariant-loop-number l = list_any (λ (pv : List ℕ × Pv). bytes_eq pv.1.id l.id) (drop l.number l.group.pvs) ≡ has_pv_id l.group l.id
