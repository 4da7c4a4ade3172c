use Rattle.std.proofs.Common.{List, ℕ, sym, ◌∙◌}
use Rattle.meta_model.specs.declared.lv.Lv.{Lv}
use Rattle.list_laws.proofs.Walks.{any_here, any_past}
use Rattle.group_edits.specs.ReducedGroup.{has_leg_on_pv, lies_on_pv}
use Rattle.group_edits.proofs.reduce_group.has_leg_on_pv.Goals as goal

pub returns-then-lies_on_pv : goal.returns-then-lies_on_pv
returns-then-lies_on_pv c =
    any_here (λ (row : List ℕ × Lv). lies_on_pv c.args.number row.1) c.args.group.now.lvs c.loop-place.place _
    (has_leg_on_pv c.args.group.now c.args.number) c.get.ensures c.loop-place.invariant
    (sym c.lies_on_pv.ensures ∙ c.if-lies_on_pv.true)

pub loop-place-preserved : goal.loop-place-preserved
loop-place-preserved c =
    any_past (λ (row : List ℕ × Lv). lies_on_pv c.args.number row.1) c.args.group.now.lvs c.loop-place.place _
    (has_leg_on_pv c.args.group.now c.args.number) c.get.ensures c.loop-place.invariant
    (sym c.lies_on_pv.ensures ∙ c.if-lies_on_pv.false)
