-- One physical volume more, and none is left at the end.
use Rattle.std.proofs.Common.{◌∙◌, arith, length}
use Rattle.std.specs.List.{range_with_len}
use Rattle.extent_map.specs.FreeCount.{free_extents}
use Rattle.lvm_report.proofs.FreeSums.{free_there}
use Rattle.lvm_report.proofs.GroupLine.{pvs_are_few}
use Rattle.lvm_report.proofs.Rows.{range_at, sum_past, sum_row}
use Rattle.lvm_report.proofs.group_line.count_free.Goals as goal

pub total-free-requires : goal.total-free-requires
total-free-requires c =
    omega (
      arith,
      (free_there c.args.group.now _ c.loop-number.number c.as_slice.result.now _ c.requires c.in_ok-all.ensures
          (omega (arith, c.loop-number-test.true, c.len-number-end.ensures)) (c.as_slice.ensures ∙ c.get.ensures)).1,
    )

pub overflow_add-free : goal.overflow_add-free
overflow_add-free c =
    let here =
    free_there c.args.group.now _ c.loop-number.number c.as_slice.result.now _ c.requires c.in_ok-all.ensures
    (omega (arith, c.loop-number-test.true, c.len-number-end.ensures)) (c.as_slice.ensures ∙ c.get.ensures) in
    omega (
      arith,
      c.loop-number.invariant.few,
      pvs_are_few c.args.group.now c.requires,
      c.total-free.ensures,
      here.1,
      c.loop-number-test.true,
      c.len-number-end.ensures,
      c.in_ok-all.ensures.count,
    )

pub loop-number-preserved : goal.loop-number-preserved
loop-number-preserved c =
    let here =
    free_there c.args.group.now _ c.loop-number.number c.as_slice.result.now _ c.requires c.in_ok-all.ensures
    (omega (arith, c.loop-number-test.true, c.len-number-end.ensures)) (c.as_slice.ensures ∙ c.get.ensures) in
    record {
      counted = omega (
        arith,
        c.loop-number.invariant.counted,
        c.total-free.ensures,
        here.0,
        sum_row (free_extents c.args.group.now) (range_with_len 0 (length c.args.group.now.pvs)) c.loop-number.number c.loop-number.number
            (range_at (length c.args.group.now.pvs) c.loop-number.number
            (omega (arith, c.loop-number-test.true, c.len-number-end.ensures, c.in_ok-all.ensures.count))),
      );
      few = omega (arith, c.loop-number.invariant.few, c.total-free.ensures, here.1);
    }

pub returns : goal.returns
returns c =
    omega (
      arith,
      c.loop-number.invariant.counted,
      sum_past (free_extents c.args.group.now) (length c.args.group.now.pvs) c.loop-number.number
          (omega (arith, c.loop-number-test.false, c.len-number-end.ensures, c.in_ok-all.ensures.count)),
    )
