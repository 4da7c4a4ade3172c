-- One physical volume more.
use Rattle.std.proofs.Common.{ℕ, List, arith}
use Rattle.meta_model.specs.declared.pv.Pv.{Pv}
use Rattle.lvm_report.proofs.GroupLine.{extents_are_few, pvs_are_few}
use Rattle.lvm_report.proofs.Rows.{sum_row}
use Rattle.lvm_report.proofs.group_line.count_extents.Goals as goal

pub overflow_add-extents : goal.overflow_add-extents
overflow_add-extents c =
    omega (
      arith,
      c.loop-number.invariant.few,
      pvs_are_few c.args.group.now c.requires,
      extents_are_few c.args.group.now c.loop-number.number (c.get.result.0.now, c.get.result.1.now) c.requires c.get.ensures,
    )

pub loop-number-preserved : goal.loop-number-preserved
loop-number-preserved c = record {
  counted =
      omega (
        arith,
        c.loop-number.invariant.counted,
        sum_row (λ (pv : List ℕ × Pv). pv.1.pe_count) c.args.group.now.pvs c.loop-number.number (c.get.result.0.now, c.get.result.1.now)
            c.get.ensures,
      );
  few =
      omega (
        arith,
        c.loop-number.invariant.few,
        extents_are_few c.args.group.now c.loop-number.number (c.get.result.0.now, c.get.result.1.now) c.requires c.get.ensures,
      );
}
