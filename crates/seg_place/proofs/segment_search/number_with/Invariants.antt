use Rattle.std.proofs.Common.{◌-◌, length}
use Rattle.seg_place.proofs.Halving.{HasHalved, IsBetween}
use Rattle.seg_place.proofs.segment_search.number_with.Given as goal

abbrev pub invariant-loop-high : goal.invariant-loop-high
invariant-loop-high g l =
    record {
      between : IsBetween l.segments l.extent l.low l.high;
      halved : HasHalved (length l.segments) l.low l.high l.fn.steps l.steps;
    }

abbrev pub decreases-loop-high : goal.decreases-loop-high
decreases-loop-high g l = l.high - l.low
