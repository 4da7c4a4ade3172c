-- The runs of the legs as they are sorted, and how they are put into room for them.
use Rattle.std.specs.Prelude.{◌≡◌, ℕ, ◌+◌, List, ◌++◌, length, map, take}
use Rattle.std.specs.List.{flat_map, AllAdjacentBelow}
use Rattle.std.specs.List.Sorted.{IsPermutation}
use Rattle.meta_model.specs.declared.group.Group.{Group}
use Rattle.meta_model.specs.declared.lv.Lv.{Lv}
use Rattle.meta_model.specs.declared.extent_span.ExtentSpan.{ExtentSpan}
use Rattle.meta_model.specs.declared.segment.Leg.{Leg}
use Rattle.meta_model.specs.declared.segment.Segment.{Segment}
use Rattle.meta_model.specs.Runs.{legs_of}
use Rattle.volume_rules.specs.Extents.{leg_share}
use Rattle.volume_rules.specs.Sorting.{StandsBefore, on_number}

-- the run of a leg that covers so many extents
abbrev pub leg_run : ℕ → Leg → ExtentSpan
leg_run count leg = record { on = on_number leg.on; first = leg.first; count = count }

-- those of the legs of a segment
abbrev pub segment_runs : Segment → List ExtentSpan
segment_runs segment = map (leg_run (leg_share segment.count segment.kind)) (legs_of segment.kind)

-- those of the legs of these segments
abbrev pub volume_runs : List Segment → List ExtentSpan
volume_runs segments = flat_map segment_runs segments

-- those of all legs, in the order of the text
abbrev pub group_runs : Group → List ExtentSpan
group_runs group = flat_map (λ (row : List ℕ × Lv). volume_runs row.1.segments) group.lvs

-- runs were put behind the first ones, so many, and then there are as many more
pub record Puts (old : List ExtentSpan) (count : ℕ) (put : List ExtentSpan) (new : List ExtentSpan) (after : ℕ) : Type 0 where
  pub kept : length new ≡ length old
  pub counted : after ≡ count + length put
  pub front : take after new ≡ take count old ++ put

-- the runs of the legs stand first, in order
pub record HasSortedRuns (group : Group) (runs : List ExtentSpan) : Type 0 where
  pub order : AllAdjacentBelow StandsBefore (take (length (group_runs group)) runs) (length (group_runs group))
  pub moved : IsPermutation (group_runs group) (take (length (group_runs group)) runs)
