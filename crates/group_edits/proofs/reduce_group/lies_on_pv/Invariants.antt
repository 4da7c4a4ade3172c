use Rattle.std.proofs.Common.{◌≡◌, drop}
use Rattle.std.specs.List.{list_any}
use Rattle.group_edits.specs.ReducedGroup.{lies_on_pv, segment_is_on_pv}
use Rattle.group_edits.proofs.reduce_group.lies_on_pv.Given as goal

abbrev pub invariant-loop-segment : goal.invariant-loop-segment
invariant-loop-segment l = list_any (segment_is_on_pv l.number) (drop l.segment-index l.lv.segments) ≡ lies_on_pv l.number l.lv
