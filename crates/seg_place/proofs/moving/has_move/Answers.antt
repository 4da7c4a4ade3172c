use Rattle.std.proofs.Common.{List, ℕ, sym, ◌∙◌}
use Rattle.list_laws.proofs.Walks.{any_here, any_past}
use Rattle.meta_model.specs.declared.lv.Lv.{Lv}
use Rattle.volume_rules.specs.Moving.{has_move}
use Rattle.seg_place.proofs.moving.has_move.Goals as goal

pub returns-then-is_pvmove : goal.returns-then-is_pvmove
returns-then-is_pvmove c =
    any_here (λ (row : List ℕ × Lv). row.1.status.pvmove) c.args.group.now.lvs c.loop-number.number _ (has_move c.args.group.now)
    c.get.ensures c.loop-number.invariant (sym c.is_pvmove.ensures ∙ c.if-is_pvmove.true)

pub loop-number-preserved : goal.loop-number-preserved
loop-number-preserved c =
    any_past (λ (row : List ℕ × Lv). row.1.status.pvmove) c.args.group.now.lvs c.loop-number.number _ (has_move c.args.group.now)
    c.get.ensures c.loop-number.invariant (sym c.is_pvmove.ensures ∙ c.if-is_pvmove.false)
