use Rattle.std.proofs.Common.{arith}
use Rattle.meta_model.specs.declared.extent_span.ExtentSpan.{ExtentSpan}
use Rattle.vg_check.proofs.Climbs.{grown_more, grown_low}
use Rattle.vg_check.proofs.climb.grow.Goals as goal

pub grown_number-requires-clause-low : goal.grown_number-requires-clause-low
grown_number-requires-clause-low c =
    grown_low c.args.group.now c.args.climb c.args.numbers.now c.loop-number.numbers c.loop-number.number c.lv.result.now
    c.as_slice-segments.result.now c.greatest_below-below.result c.loop-number.number c.loop-number.invariant c.lv.ensures
    c.as_slice-segments.ensures c.greatest_below-below.ensures c.requires.low

pub loop-number-preserved : goal.loop-number-preserved
loop-number-preserved c =
    let none : ExtentSpan = record { on = 0; first = 0; count = 0 } in
    grown_more c.args.group.now c.args.climb c.args.numbers.now c.loop-number.numbers c.loop-number.number none c.lv.result.now
    c.as_slice-segments.result.now c.greatest_below-below.result c.grown_number.result c.loop-number.invariant (omega arith)
    c.lv.ensures c.as_slice-segments.ensures c.greatest_below-below.ensures c.grown_number.ensures
