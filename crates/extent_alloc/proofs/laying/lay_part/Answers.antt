use Rattle.extent_alloc.proofs.LaySteps.{laid_whole}
use Rattle.extent_alloc.proofs.laying.lay_part.Goals as goal

pub returns-then-left-eq0-clause-laid : goal.returns-then-left-eq0-clause-laid
returns-then-left-eq0-clause-laid c =
    (laid_whole c.args.part.now c.args.laid.now.items c.args.runs.now c.args.from c.loop-at.laid.items c.loop-at.runs c.loop-at.done
    c.loop-at.at c.loop-at.invariant c.if-left-eq0.true).0

pub returns-then-left-eq0-clause-left : goal.returns-then-left-eq0-clause-left
returns-then-left-eq0-clause-left c =
    (laid_whole c.args.part.now c.args.laid.now.items c.args.runs.now c.args.from c.loop-at.laid.items c.loop-at.runs c.loop-at.done
    c.loop-at.at c.loop-at.invariant c.if-left-eq0.true).1
