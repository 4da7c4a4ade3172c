use Rattle.std.proofs.Common.{◌≤◌, length, arith}
use Rattle.vg_plans.proofs.CountedSegments.{counted_all, counted_next}
use Rattle.vg_plans.specs.Limits.{segment_count}
use Rattle.vg_plans.proofs.limits.segment_count.Goals as goal

pub loop-place-preserved : goal.loop-place-preserved
loop-place-preserved c = record {
  fits = omega (arith, c.saturating_add-count.ensures);
  all =
      counted_next c.args.lvs.now c.loop-place.count c.loop-place.place c.saturating_add-count.result c.len.result 18446744073709551615
      (segment_count c.args.lvs.now) (c.get.result.0.now, c.get.result.1.now) c.get.ensures c.len.ensures
      c.saturating_add-count.ensures c.loop-place.invariant.all;
}

pub returns : goal.returns
returns c =
    let past : length c.args.lvs.now ≤ c.loop-place.place = omega (arith, c.loop-place-test.false, c.len-place-end.ensures.count) in
    counted_all c.args.lvs.now c.loop-place.count c.loop-place.place 18446744073709551615 (segment_count c.args.lvs.now) past
    c.loop-place.invariant.fits c.loop-place.invariant.all
