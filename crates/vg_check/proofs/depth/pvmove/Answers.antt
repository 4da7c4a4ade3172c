use Rattle.std.proofs.Common.{sym, ◌∙◌}
use Rattle.vg_check.proofs.ShortWays.{pvmove_here, pvmove_later}
use Rattle.vg_check.proofs.depth.pvmove.Goals as goal

pub returns-then-is_pvmove : goal.returns-then-is_pvmove
returns-then-is_pvmove c =
    pvmove_here c.args.group.now c.loop-number.number c.lv.result.now c.lv.ensures (sym c.is_pvmove.ensures ∙ c.if-is_pvmove.true)
    c.loop-number.invariant

pub loop-number-preserved : goal.loop-number-preserved
loop-number-preserved c =
    pvmove_later c.args.group.now c.loop-number.number c.lv.result.now c.lv.ensures (sym c.is_pvmove.ensures ∙ c.if-is_pvmove.false)
    c.loop-number.invariant
