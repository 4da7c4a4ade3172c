use Rattle.std.proofs.Common.{arith}
use Rattle.std.proofs.lemmas.Bool.{false≢true}
use Rattle.vg_check.proofs.Climbs.{at_most_more, at_most_fails}
use Rattle.vg_check.proofs.depth.named_are_at_most.Goals as goal

pub loop-number-preserved : goal.loop-number-preserved
loop-number-preserved c =
    at_most_more c.args.group.now c.loop-number.number c.lv.result.now c.as_slice-segments.result.now c.args.numbers.now c.args.most
    c.greatest_below.result c.lv.ensures c.as_slice-segments.ensures c.greatest_below.ensures (omega arith) c.loop-number.invariant

pub returns-then-greatest_below-most : goal.returns-then-greatest_below-most
returns-then-greatest_below-most c = (
  λ is. absurd (false≢true is),
  λ low. absurd (at_most_fails c.args.group.now c.loop-number.number c.lv.result.now c.as_slice-segments.result.now c.args.numbers.now
      c.args.most c.greatest_below.result c.lv.ensures c.as_slice-segments.ensures c.greatest_below.ensures (omega arith) low),
)
