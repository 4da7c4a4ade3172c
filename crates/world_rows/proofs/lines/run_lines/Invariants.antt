-- Each turn takes one line out.
use Rattle.std.proofs.Common.{length}
use Rattle.world_rows.proofs.lines.run_lines.Given as goal

abbrev pub decreases-loop-line : goal.decreases-loop-line
decreases-loop-line g l = length l.lines.items
