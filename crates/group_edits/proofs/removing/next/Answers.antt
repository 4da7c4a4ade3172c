use Rattle.std.proofs.Common.{refl, arith}
use Rattle.group_edits.proofs.Marking.{next_first, next_past, next_step, next_told}
use Rattle.group_edits.proofs.removing.next.Goals as goal

pub loop-lv-init : goal.loop-lv-init
loop-lv-init c = next_first c.args.named.now c.args.held.now c.args.removed _ refl

pub loop-lv-preserved : goal.loop-lv-preserved
loop-lv-preserved c =
    next_step c.args.named.now c.args.held.now c.args.removed c.loop-lv.goes c.loop-lv.lv c.goes_by.result c.loop-lv.invariant (omega arith)
    c.goes_by.ensures

pub returns-clause-told : goal.returns-clause-told
returns-clause-told c =
    next_told c.args.named.now c.args.held.now c.args.removed c.loop-lv.goes c.loop-lv.lv c.loop-lv.invariant (omega arith)

pub returns-clause-past : goal.returns-clause-past
returns-clause-past c = next_past c.args.named.now c.args.held.now c.args.removed c.loop-lv.goes c.loop-lv.lv c.loop-lv.invariant
