use Rattle.std.proofs.Common.{sym, ◌∙◌}
use Rattle.extent_alloc.proofs.LaySteps.{laid_at_end, laid_next}
use Rattle.extent_alloc.proofs.laying.lay.Goals as goal

pub lay_part-requires-clause-runs : goal.lay_part-requires-clause-runs
lay_part-requires-clause-runs c = c.loop-part.invariant.0

pub returns : goal.returns
returns c =
    sym (laid_at_end c.args.parts.now c.loop-part.laid.items c.loop-part.runs c.loop-part.at c.loop-part.part-index c.loop-part-test.false)
    ∙ c.loop-part.invariant.1

pub loop-part-preserved : goal.loop-part-preserved
loop-part-preserved c = (
  c.lay_part.ensures.ends,
  laid_next c.args.parts.now c.loop-part.part-index c.part-item.result c.loop-part.laid.items c.lay_part.new.laid.items c.loop-part.runs
      c.lay_part.new.runs c.loop-part.at c.in_ok-at.at c.loop-part-test.true
      c.part-item.is c.in_ok-at.ensures.laid c.in_ok-at.ensures.left
      ∙ c.loop-part.invariant.1,
)
