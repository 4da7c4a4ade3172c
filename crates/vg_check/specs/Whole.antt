-- What the rules before that on legs say of one segment.
use Rattle.std.specs.Prelude.{◌≤◌, length}
use Rattle.meta_model.specs.declared.segment.Segment.{Segment}
use Rattle.meta_model.specs.Runs.{legs_of}
use Rattle.volume_rules.specs.Extents.{leg_share}
use Rattle.volume_rules.specs.Rules.{SegmentIsSmall}

-- its numbers are small, it has a leg, and each leg covers an extent
pub record SegmentIsWhole (segment : Segment) : Type 0 where
  pub small : SegmentIsSmall segment
  pub legs : 1 ≤ length (legs_of segment.kind)
  pub covers : 1 ≤ leg_share segment.count segment.kind
