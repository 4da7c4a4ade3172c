-- One volume more.
use Rattle.std.proofs.Common.{ℕ, List, ◌++◌, ◌∙◌, arith, refl}
use Rattle.std.specs.List.{filter, flat_map}
use Rattle.meta_model.specs.declared.lv.Lv.{Lv}
use Rattle.lvm_report.specs.Reports.{lv_line, lv_lines}
use Rattle.lvm_report.proofs.MarkedVolumes.{mark_at, marks_count}
use Rattle.lvm_report.proofs.Rows.{rows_walked}
use Rattle.lvm_report.proofs.VolumeLines.{line_more, sectors_are_few, size_is_some}
use Rattle.lvm_report.proofs.volume_lines.put_volumes.Goals as goal

pub index-requires : goal.index-requires
index-requires c =
    omega (arith, c.in_ok-moving.moving.ok.0, marks_count c.args.group.now c.in_ok-moving.moving.items 4 c.in_ok-moving.ensures)

pub put_if_visible-requires-clause-size : goal.put_if_visible-requires-clause-size
put_if_visible-requires-clause-size c = size_is_some c.args.group.now c.requires

pub put_if_visible-requires-clause-few : goal.put_if_visible-requires-clause-few
put_if_visible-requires-clause-few c =
    sectors_are_few c.args.group.now c.loop-number.number (c.get.result.0.now, c.get.result.1.now) c.requires c.get.ensures

pub loop-number-preserved : goal.loop-number-preserved
loop-number-preserved c =
    line_more c.args.group.now c.loop-number.number (c.get.result.0.now, c.get.result.1.now) c.index.result.now c.kind_of-kind.result.now
    c.loop-number.text.items c.put_if_visible.new.text.items (c.args.text.now.items ++ lv_lines c.args.group.now) c.get.ensures
    (c.index.ensures ∙ mark_at c.args.group.now c.in_ok-moving.moving.items 4 c.loop-number.number c.index.result.now c.in_ok-moving.ensures
    (omega arith))
    c.kind_of-kind.ensures c.in_ok-put_if_visible.ensures c.loop-number.invariant

pub returns : goal.returns
returns c =
    rows_walked (λ (rows : List (ℕ × (List ℕ × Lv))). flat_map (lv_line c.args.group.now)
    (filter (λ (lv : ℕ × (List ℕ × Lv)). lv.1.1.status.visible) rows)) c.args.group.now.lvs c.loop-number.number
    c.loop-number.text.items
    (c.args.text.now.items ++ lv_lines c.args.group.now) refl (omega arith) c.loop-number.invariant
