use Rattle.vg_check.proofs.Within.{pv_end, no_pv}
use Rattle.vg_check.proofs.legs.lies_within_pv.Goals as goal

pub returns-then-number-pv_count : goal.returns-then-number-pv_count
returns-then-number-pv_count c = pv_end c.args.group.now c.args.number c.args.end _ _ c.pv.ensures.1

pub returns-else-number-pv_count : goal.returns-else-number-pv_count
returns-else-number-pv_count c =
    no_pv c.args.group.now c.args.number c.args.end c.pv_count.result c.pv_count.ensures c.if-number-pv_count.false
