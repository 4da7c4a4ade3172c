use Rattle.std.proofs.Common.{◌<◌}
use Rattle.std.proofs.lemmas.List.Elements.{All-more}
use Rattle.extent_alloc.specs.declared.part.PvRun.{PvRun}
use Rattle.extent_alloc.proofs.Walks.{all_taken}
use Rattle.extent_alloc.proofs.one_leg.first_long.Goals as goal

pub loop-run-preserved : goal.loop-run-preserved
loop-run-preserved c =
    All-more (λ (run : PvRun). run.count < c.args.extents) c.args.runs.now c.loop-run.run-index _ c.loop-run-test.true c.loop-run.invariant
    c.if-run-extents.false

pub returns : goal.returns
returns c =
    all_taken (λ (run : PvRun). run.count < c.args.extents) c.args.runs.now c.loop-run.run-index c.loop-run-test.false c.loop-run.invariant
