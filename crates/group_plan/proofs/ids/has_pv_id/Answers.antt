use Rattle.std.proofs.Common.{List, ℕ, sym, ◌∙◌}
use Rattle.std.specs.Str.{bytes_eq}
use Rattle.list_laws.proofs.Walks.{any_here, any_past}
use Rattle.meta_model.specs.declared.pv.Pv.{Pv}
use Rattle.group_plan.specs.Ids.{has_pv_id}
use Rattle.group_plan.proofs.ids.has_pv_id.Goals as goal

pub returns-then-same_id : goal.returns-then-same_id
returns-then-same_id c =
    any_here (λ (pv : List ℕ × Pv). bytes_eq pv.1.id c.args.id.now) c.args.group.now.pvs c.loop-number.number _
    (has_pv_id c.args.group.now c.args.id.now) c.get.ensures c.loop-number.invariant
    (sym c.same_id.ensures ∙ c.if-same_id.true)

pub loop-number-preserved : goal.loop-number-preserved
loop-number-preserved c =
    any_past (λ (pv : List ℕ × Pv). bytes_eq pv.1.id c.args.id.now) c.args.group.now.pvs c.loop-number.number _
    (has_pv_id c.args.group.now c.args.id.now) c.get.ensures c.loop-number.invariant
    (sym c.same_id.ensures ∙ c.if-same_id.false)
