use Rattle.std.proofs.Common.{◌≡◌, ◌<◌, ◌||◌, ℕ, drop}
use Rattle.std.specs.List.{list_any}
use Rattle.seg_place.specs.Marks.{is_marked}
use Rattle.group_edits.specs.Marking.{segment_names}
use Rattle.group_edits.proofs.removing.mark_segments.Given as goal

abbrev pub invariant-loop-segment : goal.invariant-loop-segment
invariant-loop-segment l =
    (x : ℕ) → x < 1024 → (is_marked l.all x || list_any (segment_names x) (drop l.segment-index l.segments))
    ≡ (is_marked l.fn.all x || list_any (segment_names x) l.segments)
