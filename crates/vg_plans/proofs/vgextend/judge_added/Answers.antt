use Rattle.std.proofs.Common.{◌≤◌, ◌<◌, ℕ, List, ◌++◌, length, sym, ap, subst, ◌∙◌, arith}
use Rattle.std.specs.Prelude.{All}
use Rattle.group_plan.proofs.FewAdded.{few_added}
use Rattle.group_plan.proofs.StateFacts.{both_below}
use Rattle.group_plan.specs.Added.{disks_added}
use Rattle.vg_plans.proofs.vgextend.judge_added.Goals as goal

pub judge_areas-requires : goal.judge_areas-requires
judge_areas-requires c =
    subst (All (λ number. number < 64)) (sym
    (c.as_slice-4.ensures ∙ c.in_ok-disks.ensures ∙ ap (λ (l : List ℕ). l ++ disks_added c.args.all.now) c.as_slice-2.ensures))
    (both_below c.args.state.now.disk_of c.args.all.now c.requires.listed c.requires.added)

pub overflow_add-count : goal.overflow_add-count
overflow_add-count c =
    let few : length c.args.all.now ≤ 64 = few_added _ c.args.all.now c.requires.added c.in_ok-judge_used.ensures in
    omega (arith, few, c.requires.few)
