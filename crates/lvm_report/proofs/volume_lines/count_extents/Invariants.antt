-- The extents so far, and those that are left.
use Rattle.std.proofs.Common.{◌≡◌, ◌+◌, drop, sum_by}
use Rattle.meta_model.specs.declared.segment.Segment.{Segment}
use Rattle.lvm_report.proofs.volume_lines.count_extents.Given as goal

abbrev pub invariant-loop-segment : goal.invariant-loop-segment
invariant-loop-segment l =
    l.extents + sum_by (λ (segment : Segment). segment.count) (drop l.segment-index l.segments)
    ≡ sum_by (λ (segment : Segment). segment.count) l.segments
