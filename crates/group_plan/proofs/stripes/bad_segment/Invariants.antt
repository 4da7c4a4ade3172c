use Rattle.std.proofs.Common.{◌≡◌, drop, map}
use Rattle.meta_model.specs.declared.segment.Segment.{Segment}
use Rattle.group_plan.specs.Judging.{first_refusal}
use Rattle.group_plan.specs.Stripes.{kind_row, segments_row}
use Rattle.group_plan.proofs.stripes.bad_segment.Given as goal

abbrev pub invariant-loop-segment : goal.invariant-loop-segment
invariant-loop-segment l =
    first_refusal (map (λ (segment : Segment). kind_row l.extent_size segment.kind) (drop l.segment-index l.segments))
    ≡ segments_row l.extent_size l.segments
