-- The runs of all legs: as they are sorted, that there is room for them, and that they can be sorted.
use Rattle.std.proofs.Common.{◌≡◌, ℕ, ◌+◌, ◌^◌, ◌<◌, ◌≤◌, ◌↔◌, IsTrue, Bool, List, [], ◌∷◌, ◌++◌, length, map, get_or, take, Some, None}
use Rattle.std.proofs.Common.{refl, sym, ap, subst, ◌∙◌, length-append, arith}
use Rattle.std.specs.Prelude.{All, AllPairs, slice_get, sum_by}
use Rattle.std.specs.List.{flat_map, AllAdjacentBelow}
use Rattle.std.specs.List.Sorted.{IsPermutation}
use Rattle.std.proofs.lemmas.List.{map-append, length-map}
use Rattle.std.proofs.lemmas.List.Elements.{All-map, All-contains_itself}
use Rattle.std.proofs.lemmas.List.Sums.{sum_by-cons}
use Rattle.std.proofs.lemmas.Option.{slice_get_within}
use Rattle.std.proofs.Math.Nat.{div-le_self}
use Rattle.meta_model.specs.declared.group.Group.{Group}
use Rattle.meta_model.specs.declared.lv.Lv.{Lv}
use Rattle.meta_model.specs.declared.extent_span.ExtentSpan.{ExtentSpan}
use Rattle.meta_model.specs.declared.segment.Leg.{Leg}
use Rattle.meta_model.specs.declared.segment.On.{On}
use Rattle.meta_model.specs.declared.segment.On.TheVariants as on
use Rattle.meta_model.specs.declared.segment.Segment.{Segment}
use Rattle.meta_model.specs.declared.segment.SegKind.{SegKind}
use Rattle.meta_model.specs.declared.segment.SegKind.TheVariants.{Striped, Mirror}
use Rattle.meta_model.specs.Runs.{legs_of, room_of, run_room}
use Rattle.volume_rules.specs.declared.rule.Rule.TheVariants.{Volumes, Within}
use Rattle.volume_rules.specs.Extents.{leg_share}
use Rattle.volume_rules.specs.Legs.{LegRun, runs_of, runs_of_legs, runs_of_segments, runs_of_volumes}
use Rattle.volume_rules.specs.Rules.{KeepsBelow, LegsLieApart, LegsLieWithin, LiesWithin, VolumesAreFew, KindIsSmall, IsSmall}
use Rattle.volume_rules.specs.Sorting.{CanBeSorted, NoExtentInBoth, StandsBefore, on_number, run_to_sort}
use Rattle.volume_rules.proofs.ApartInOrder.{apart_in_order}
use Rattle.volume_rules.proofs.LegRuns.{run_is, IsRunOf}
use Rattle.vg_check.specs.SortedRuns.{leg_run, segment_runs, volume_runs, group_runs, HasSortedRuns}
use Rattle.vg_check.specs.Whole.{SegmentIsWhole}
use Rattle.vg_check.proofs.Ends.{lvs_whole, fewer}
use Rattle.list_laws.proofs.Fronts.{all_at}

of_legs : (lv segment count number : ℕ) (legs : List Leg)
    → map run_to_sort (runs_of_legs lv segment count number legs) ≡ map (leg_run count) legs
of_legs lv segment count number [] = refl
of_legs lv segment count number (leg ∷ legs) =
    ap (λ (runs : List ExtentSpan). leg_run count leg ∷ runs) (of_legs lv segment count (number + 1) legs)

of_segments : (lv number : ℕ) (segments : List Segment) → map run_to_sort (runs_of_segments lv number segments) ≡ volume_runs segments
of_segments lv number [] = refl
of_segments lv number (s ∷ segments) =
    map-append run_to_sort (runs_of_legs lv number (leg_share s.count s.kind) 0 (legs_of s.kind))
    (runs_of_segments lv (number + 1) segments)
    ∙ ap (λ (runs : List ExtentSpan). runs ++ map run_to_sort (runs_of_segments lv (number + 1) segments))
    (of_legs lv number (leg_share s.count s.kind) 0 (legs_of s.kind))
    ∙ ap (λ (runs : List ExtentSpan). segment_runs s ++ runs) (of_segments lv (number + 1) segments)

of_volumes : (number : ℕ) (lvs : List (List ℕ × Lv))
    → map run_to_sort (runs_of_volumes number lvs) ≡ flat_map (λ (row : List ℕ × Lv). volume_runs row.1.segments) lvs
of_volumes number [] = refl
of_volumes number (v ∷ lvs) =
    map-append run_to_sort (runs_of_segments number 0 v.1.segments) (runs_of_volumes (number + 1) lvs)
    ∙ ap (λ (runs : List ExtentSpan). runs ++ map run_to_sort (runs_of_volumes (number + 1) lvs)) (of_segments number 0 v.1.segments)
    ∙ ap (λ (runs : List ExtentSpan). volume_runs v.1.segments ++ runs) (of_volumes (number + 1) lvs)

-- the runs that are sorted are those of the rules
pub sorted_are : (group : Group) → map run_to_sort (runs_of group) ≡ group_runs group
unfolding runs_of
sorted_are group = of_volumes 0 group.lvs

-- there is room for them
segments_fit : (segments : List Segment) → length (volume_runs segments) ≡ sum_by (λ (s : Segment). length (legs_of s.kind)) segments
segments_fit [] = refl
segments_fit (s ∷ segments) =
    let long : length (segment_runs s) ≡ length (legs_of s.kind) = length-map (legs_of s.kind) (leg_run (leg_share s.count s.kind)) in
    omega (
      arith,
      length-append (segment_runs s) (volume_runs segments),
      segments_fit segments,
      sum_by-cons (λ (s : Segment). length (legs_of s.kind)) s segments,
    )

rows_fit : (lvs : List (List ℕ × Lv)) → length (flat_map (λ (row : List ℕ × Lv). volume_runs row.1.segments) lvs) ≤ run_room lvs
rows_fit [] = omega arith
rows_fit (v ∷ lvs) =
    omega (
      arith,
      length-append (volume_runs v.1.segments) (flat_map (λ (row : List ℕ × Lv). volume_runs row.1.segments) lvs),
      rows_fit lvs,
      segments_fit v.1.segments,
      sum_by-cons (λ (row : List ℕ × Lv). room_of row.1) v lvs,
    )

pub group_fits : (group : Group) → length (group_runs group) ≤ run_room group.lvs
group_fits group = rows_fit group.lvs

-- each can be sorted
small_on : (group : Group) (o : On) (end : ℕ) → VolumesAreFew group → LiesWithin group o end → on_number o < 2 ^ 12
small_on group (on.Pv n) end few within = omega (arith, few.pvs.1, slice_get_within group.pvs n (within.0, within.1) within.2)
small_on group (on.Lv n) end few within = omega (arith, few.lvs, slice_get_within group.lvs n (within.1.0, within.0) within.1.1)

small_first : (kind : SegKind) (n : ℕ) (leg : Leg) → KindIsSmall kind → slice_get (legs_of kind) n ≡ Some leg → leg.first < 2 ^ 48
small_first (Striped stripe legs) n leg small is = all_at (λ (l : Leg). IsSmall l.first) legs n leg small.1 is
small_first (Mirror region None legs) n leg small is = all_at (λ (l : Leg). IsSmall l.first) legs n leg small.1 is
small_first (Mirror region (Some moved) legs) n leg small is = all_at (λ (l : Leg). IsSmall l.first) legs n leg small.2 is

small_share : (count : ℕ) (kind : SegKind) → count < 2 ^ 48 → leg_share count kind < 2 ^ 48
small_share count (Striped stripe legs) small = omega (arith, div-le_self count (length legs))
small_share count (Mirror region moved legs) small = small

leg_sortable : (group : Group) (run : LegRun) → KeepsBelow 10 group → IsRunOf group.lvs 0 run
    → LiesWithin group run.on (run.first + run.count) → CanBeSorted (run_to_sort run)
leg_sortable group run below is within =
    let whole : SegmentIsWhole is.segment =
    all_at SegmentIsWhole is.volume.1.segments run.segment is.segment
    (lvs_whole group is.nth is.volume (fewer group 9 10 (omega arith) below) is.is_volume) is.is_segment in
    let first = small_first is.segment.kind run.leg is.leg whole.small.2 is.is_leg in
    let share = small_share is.segment.count is.segment.kind whole.small.1 in
    record {
      on = small_on group run.on (run.first + run.count) (below Volumes (omega arith)) within;
      first = omega (arith, is.first_is);
      count = (omega (arith, is.count_is, whole.covers), omega (arith, is.count_is));
    }

pub runs_sortable : (group : Group) → KeepsBelow 10 group → All CanBeSorted (group_runs group)
runs_sortable group below =
    let within : LegsLieWithin group = below Within (omega arith) in
    subst (All CanBeSorted) (sorted_are group)
    (All-map CanBeSorted run_to_sort (runs_of group)
    (λ k d lt. let run : LegRun = get_or (runs_of group) k d in leg_sortable group run below
    (run_is group run (All-contains_itself (runs_of group) k d lt)) (within k d lt)))

-- that they lie apart is the rule
pub apart_tells : (group : Group) (answer : Bool) (runs : List ExtentSpan) → runs ≡ group_runs group
    → IsTrue answer ↔ AllPairs NoExtentInBoth runs → IsTrue answer ↔ LegsLieApart group
apart_tells group answer runs same tells =
    let both = apart_in_order group in
    let are : runs ≡ map run_to_sort (runs_of group) = same ∙ sym (sorted_are group) in (
      λ is. both.1 (subst (AllPairs NoExtentInBoth) are (tells.0 is)),
      λ apart. tells.1 (subst (AllPairs NoExtentInBoth) (sym are) (both.0 apart)),
    )

-- a front that was sorted has them in order
pub sorted_front : (group : Group) (count : ℕ) (before after : List ExtentSpan) → count ≡ 0 + length (group_runs group)
    → take count before ≡ group_runs group
    → AllAdjacentBelow StandsBefore (take count after) count → IsPermutation (take count before) (take count after)
    → HasSortedRuns group after
sorted_front group count before after counted front order moved =
    let same : count ≡ length (group_runs group) = omega arith in record {
      order = subst (λ n. AllAdjacentBelow StandsBefore (take n after) n) same order;
      moved =
          subst (λ n. IsPermutation (group_runs group) (take n after)) same
          (subst (λ runs. IsPermutation runs (take count after)) front moved);
    }
