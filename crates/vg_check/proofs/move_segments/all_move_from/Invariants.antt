use Rattle.std.proofs.Common.{take}
use Rattle.std.specs.Prelude.{All}
use Rattle.vg_check.specs.Moves.{MovesFrom}
use Rattle.vg_check.proofs.move_segments.all_move_from.Given as goal

abbrev pub invariant-loop-segment : goal.invariant-loop-segment
invariant-loop-segment l = All (MovesFrom l.source) (take l.segment-index l.segments)
