use Rattle.std.proofs.Common.{◌≡◌, ◌++◌, drop}
use Rattle.extent_map.specs.Gaps.{StandBetween, gaps}
use Rattle.extent_map.proofs.gap_runs.gaps_between.Given as goal

abbrev pub invariant-loop-run : goal.invariant-loop-run
invariant-loop-run l =
    StandBetween l.at l.end (drop l.run-index l.runs) × (l.free.items ++ gaps l.at l.end (drop l.run-index l.runs) ≡ gaps 0 l.end l.runs)
