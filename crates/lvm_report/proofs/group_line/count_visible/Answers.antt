-- One volume more, and none is left at the end.
use Rattle.std.proofs.Common.{Bool, ap, ◌∙◌, arith}
use Rattle.std.specs.Prelude.{if◌then◌else◌}
use Rattle.lvm_report.proofs.VolumeLines.{count_next, none_past, one_at_most}
use Rattle.lvm_report.proofs.group_line.count_visible.Goals as goal

pub overflow_add-count : goal.overflow_add-count
overflow_add-count c = omega (arith, c.loop-number.invariant.few, c.one_if-count.ensures, one_at_most c.is_visible.result)

pub loop-number-preserved : goal.loop-number-preserved
loop-number-preserved c = record {
  counted =
      omega (
        arith,
        c.loop-number.invariant.counted,
        c.one_if-count.ensures ∙ ap (λ (is : Bool). if is then 1 else 0) c.is_visible.ensures,
        count_next c.args.group.now c.loop-number.number (c.get.result.0.now, c.get.result.1.now) c.get.ensures,
      );
  few = omega (arith, c.loop-number.invariant.few, c.one_if-count.ensures, one_at_most c.is_visible.result);
}

pub returns : goal.returns
returns c = omega (arith, c.loop-number.invariant.counted, none_past c.args.group.now c.loop-number.number (omega arith))
