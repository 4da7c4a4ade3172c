use Rattle.std.proofs.Common.{◌≡◌, ℕ, ◌<◌, ◌||◌, drop}
use Rattle.std.specs.FinSet as set
use Rattle.std.specs.List.{list_any}
use Rattle.extent_alloc.specs.Usable.{begins_on}
use Rattle.extent_alloc.proofs.sources.put_segments.Given as goal

abbrev pub invariant-loop-segment : goal.invariant-loop-segment
invariant-loop-segment l =
    (pv : ℕ) → pv < 64 → (set.contains l.sources pv || list_any (begins_on pv) (drop l.segment-index l.segments))
    ≡ (set.contains l.fn.sources pv || list_any (begins_on pv) l.segments)
