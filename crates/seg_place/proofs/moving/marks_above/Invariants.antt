use Rattle.seg_place.proofs.MarkedVolumes.{HasMarked}
use Rattle.seg_place.proofs.moving.marks_above.Given as goal

abbrev pub invariant-loop-number : goal.invariant-loop-number
invariant-loop-number l = HasMarked l.group l.marks l.above l.number
