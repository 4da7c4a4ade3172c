use Rattle.std.proofs.Common.{take}
use Rattle.std.specs.Prelude.{All}
use Rattle.vg_check.specs.Hidden.{LegsAreHidden}
use Rattle.vg_check.proofs.depth.segments_hide.Given as goal

abbrev pub invariant-loop-segment : goal.invariant-loop-segment
invariant-loop-segment l = All (LegsAreHidden l.group) (take l.segment-index l.segments)
