use Rattle.std.proofs.Common.{arith}
use Rattle.extent_map.proofs.GapExtents.{next_within}
use Rattle.extent_map.proofs.gap_runs.gaps_between.Goals as goal

pub overflow_add-at : goal.overflow_add-at
overflow_add-at c =
    omega (
      arith,
      c.ranges.end.fits,
      next_within c.loop-run.at c.args.end c.args.runs.now c.loop-run.run-index
          (record { on = 0; first = 0; count = 0 }) c.loop-run-test.true c.loop-run.invariant.0,
    )
