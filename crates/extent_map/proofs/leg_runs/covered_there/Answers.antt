use Rattle.std.proofs.Common.{ap, arith}
use Rattle.std.specs.List.{flat_map}
use Rattle.meta_model.specs.declared.extent_span.ExtentSpan.{ExtentSpan}
use Rattle.extent_map.specs.Covered.{extents_in, lv_on, segment_on}
use Rattle.extent_map.proofs.LegsOnVolume.{legs_of_row}
use Rattle.list_laws.proofs.RowWalks.{sum_row}
use Rattle.extent_map.proofs.leg_runs.covered_there.Goals as goal

pub covered_by_segments-total-requires-clause-legs : goal.covered_by_segments-total-requires-clause-legs
covered_by_segments-total-requires-clause-legs c =
    legs_of_row c.args.lvs.now c.loop-number.number (c.get.result.0.now, c.get.result.1.now) _ c.requires.legs c.get.ensures
    c.as_slice.ensures

pub covered_by_segments-total-requires-clause-fits : goal.covered_by_segments-total-requires-clause-fits
covered_by_segments-total-requires-clause-fits c =
    omega (
      arith,
      c.requires.fits,
      c.loop-number.invariant,
      ap (λ segments. extents_in (flat_map (segment_on c.args.pv) segments)) c.as_slice.ensures,
      sum_row (λ (run : ExtentSpan). run.count) (lv_on c.args.pv) c.args.lvs.now c.loop-number.number
          (c.get.result.0.now, c.get.result.1.now) c.get.ensures,
    )

pub overflow_add-total : goal.overflow_add-total
overflow_add-total c =
    omega (
      arith,
      c.requires.fits,
      c.loop-number.invariant,
      c.covered_by_segments-total.ensures,
      ap (λ segments. extents_in (flat_map (segment_on c.args.pv) segments)) c.as_slice.ensures,
      sum_row (λ (run : ExtentSpan). run.count) (lv_on c.args.pv) c.args.lvs.now c.loop-number.number
          (c.get.result.0.now, c.get.result.1.now) c.get.ensures,
    )

pub loop-number-preserved : goal.loop-number-preserved
loop-number-preserved c =
    omega (
      arith,
      c.loop-number.invariant,
      c.covered_by_segments-total.ensures,
      ap (λ segments. extents_in (flat_map (segment_on c.args.pv) segments)) c.as_slice.ensures,
      sum_row (λ (run : ExtentSpan). run.count) (lv_on c.args.pv) c.args.lvs.now c.loop-number.number
          (c.get.result.0.now, c.get.result.1.now) c.get.ensures,
    )
