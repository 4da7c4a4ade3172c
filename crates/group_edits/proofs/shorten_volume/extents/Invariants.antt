-- Those so far and the others.
use Rattle.std.proofs.Common.{◌≡◌, ◌+◌, drop}
use Rattle.std.specs.Prelude.{sum_by}
use Rattle.meta_model.specs.declared.segment.Segment.{Segment}
use Rattle.volume_rules.specs.Extents.{extents_of}
use Rattle.group_edits.proofs.shorten_volume.extents.Given as goal

abbrev pub invariant-loop-segment : goal.invariant-loop-segment
invariant-loop-segment l = l.count + sum_by (λ (s : Segment). s.count) (drop l.segment-index l.segment-items) ≡ extents_of l.lv
