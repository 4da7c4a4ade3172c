-- One volume more.
use Rattle.std.proofs.Common.{ℕ, List, length, arith}
use Rattle.meta_model.specs.declared.lv.Lv.{Lv}
use Rattle.list_laws.proofs.ItemWalks.{sum_more, sum_so_far}
use Rattle.lv_plans.proofs.allocating.segments.Goals as goal

pub overflow_add-count : goal.overflow_add-count
overflow_add-count c =
    let within = sum_so_far (λ (row : List ℕ × Lv). length row.1.segments) c.args.group.now.lvs c.loop-number.number _ c.get.ensures in
    let few = c.requires in
    let counted = c.loop-number.invariant in
    let one = c.len.ensures in
    omega (arith, within, few, counted, one)

pub loop-number-preserved : goal.loop-number-preserved
loop-number-preserved c =
    let next = sum_more (λ (row : List ℕ × Lv). length row.1.segments) c.args.group.now.lvs c.loop-number.number _ c.get.ensures in
    let counted = c.loop-number.invariant in
    let one = c.len.ensures in
    omega (arith, next, counted, one)
