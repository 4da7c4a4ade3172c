use Rattle.std.proofs.Common.{◌≡◌, ℕ, List, drop}
use Rattle.std.specs.List.{list_any}
use Rattle.meta_model.specs.declared.lv.Lv.{Lv}
use Rattle.group_edits.specs.ReducedGroup.{has_leg_on_pv, lies_on_pv}
use Rattle.group_edits.proofs.reduce_group.has_leg_on_pv.Given as goal

abbrev pub invariant-loop-place : goal.invariant-loop-place
invariant-loop-place l =
    list_any (λ (row : List ℕ × Lv). lies_on_pv l.number row.1) (drop l.place l.group.lvs) ≡ has_leg_on_pv l.group l.number
