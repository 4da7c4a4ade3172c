use Rattle.std.proofs.Common.{◌≡◌, drop}
use Rattle.std.specs.Prelude.{find}
use Rattle.group_plan.specs.Ids.{has_other_id}
use Rattle.group_plan.specs.declared.added.AddedPv.{AddedPv}
use Rattle.vg_plans.proofs.vgextend.judge_ids.Given as goal

abbrev pub invariant-loop-added : goal.invariant-loop-added
invariant-loop-added l =
    find (λ (added : AddedPv). has_other_id l.group added.header.id) (drop l.added-index l.all)
    ≡ find (λ (added : AddedPv). has_other_id l.group added.header.id) l.all
