use Rattle.std.proofs.Common.{List, ℕ, sym, ◌∙◌}
use Rattle.std.specs.Str.{bytes_eq}
use Rattle.list_laws.proofs.Walks.{any_here, any_past}
use Rattle.meta_model.specs.declared.lv.Lv.{Lv}
use Rattle.group_plan.specs.Ids.{has_lv_id}
use Rattle.group_plan.proofs.ids.has_lv_id.Goals as goal

pub returns-then-same_id : goal.returns-then-same_id
returns-then-same_id c =
    any_here (λ (lv : List ℕ × Lv). bytes_eq lv.1.id c.args.id.now) c.args.group.now.lvs c.loop-number.number _
    (has_lv_id c.args.group.now c.args.id.now) c.get.ensures c.loop-number.invariant
    (sym c.same_id.ensures ∙ c.if-same_id.true)

pub loop-number-preserved : goal.loop-number-preserved
loop-number-preserved c =
    any_past (λ (lv : List ℕ × Lv). bytes_eq lv.1.id c.args.id.now) c.args.group.now.lvs c.loop-number.number _
    (has_lv_id c.args.group.now c.args.id.now) c.get.ensures c.loop-number.invariant
    (sym c.same_id.ensures ∙ c.if-same_id.false)
