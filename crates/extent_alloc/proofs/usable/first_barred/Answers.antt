use Rattle.std.proofs.Common.{sym, ◌∙◌, arith, length}
use Rattle.extent_alloc.specs.Refusals.{is_barred}
use Rattle.extent_alloc.proofs.Walks.{find_next, found_here}
use Rattle.extent_alloc.proofs.usable.first_barred.Goals as goal

pub loop-pv-preserved : goal.loop-pv-preserved
loop-pv-preserved c =
    c.loop-pv.invariant
    ∙ find_next (is_barred c.args.group.now c.args.want.now) c.loop-pv.pv (length c.args.group.now.pvs)
    (omega (arith, c.loop-pv-test.true, c.pv_count-pv-end.ensures)) (sym c.is_barred.ensures ∙ c.if-is_barred.false)

pub returns-then-is_barred : goal.returns-then-is_barred
returns-then-is_barred c =
    sym (c.loop-pv.invariant
    ∙ found_here (is_barred c.args.group.now c.args.want.now) c.loop-pv.pv (length c.args.group.now.pvs)
    (omega (arith, c.loop-pv-test.true, c.pv_count-pv-end.ensures)) (sym c.is_barred.ensures ∙ c.if-is_barred.true))
