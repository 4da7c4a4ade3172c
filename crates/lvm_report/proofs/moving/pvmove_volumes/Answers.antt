-- One volume more.
use Rattle.std.proofs.Common.{sym, ◌∙◌, arith, length, map, refl}
use Rattle.volume_rules.specs.Moving.{has_pvmove}
use Rattle.lvm_report.specs.Volumes.{leading_down}
use Rattle.lvm_report.proofs.MarkedVolumes.{one_mark, pvmove_of_row}
use Rattle.lvm_report.proofs.Rows.{range_walked}
use Rattle.lvm_report.proofs.moving.pvmove_volumes.Goals as goal

pub loop-number-preserved : goal.loop-number-preserved
loop-number-preserved c =
    let group = c.args.group.now in
    one_mark (has_pvmove group) (length group.lvs) c.loop-number.number c.is_pvmove.result c.loop-number.moving.items
    c.push.new.self.items (leading_down group 0) (omega arith)
    (c.is_pvmove.ensures ∙ sym (pvmove_of_row group c.loop-number.number (c.get.result.0.now, c.get.result.1.now) c.get.ensures))
    c.in_ok-push.ensures.items
    c.loop-number.invariant

pub returns : goal.returns
returns c =
    range_walked (map (has_pvmove c.args.group.now)) (length c.args.group.now.lvs) c.loop-number.number c.loop-number.moving.items
    (leading_down c.args.group.now 0) refl (omega arith) c.loop-number.invariant
