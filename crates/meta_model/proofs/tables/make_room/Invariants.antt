-- One more, and one for each leg of the segments so far.
use Rattle.std.proofs.Common.{◌≡◌, ◌+◌, length, take, sum_by, vec_len}
use Rattle.meta_model.specs.Runs.{legs_of}
use Rattle.meta_model.proofs.tables.make_room.Given as goal

abbrev pub invariant-loop-segment : goal.invariant-loop-segment
invariant-loop-segment l =
    vec_len l.runs ≡ vec_len l.fn.runs + (1 + sum_by (λ segment. length (legs_of segment.kind)) (take l.segment-index l.segment-items))
