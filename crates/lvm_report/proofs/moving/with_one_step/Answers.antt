-- One volume more.
use Rattle.std.proofs.Common.{sym, ◌∙◌, arith, length, map, refl}
use Rattle.lvm_report.specs.Marks.{next_mark, next_marks}
use Rattle.lvm_report.proofs.MarkedVolumes.{mark_of_row, one_mark}
use Rattle.lvm_report.proofs.Rows.{range_walked}
use Rattle.lvm_report.proofs.moving.with_one_step.Goals as goal

pub loop-number-preserved : goal.loop-number-preserved
loop-number-preserved c =
    let group = c.args.group.now in
    one_mark (next_mark group c.args.below.now) (length group.lvs) c.loop-number.number c.leads_down.result c.loop-number.moving.items
    c.push.new.self.items (next_marks group c.args.below.now) (omega arith)
    (c.leads_down.ensures ∙ sym (mark_of_row group c.args.below.now c.loop-number.number (c.get.result.0.now, c.get.result.1.now)
    c.get.ensures)) c.in_ok-push.ensures.items c.loop-number.invariant

pub returns : goal.returns
returns c =
    range_walked (map (next_mark c.args.group.now c.args.below.now)) (length c.args.group.now.lvs) c.loop-number.number
    c.loop-number.moving.items (next_marks c.args.group.now c.args.below.now) refl (omega arith) c.loop-number.invariant
