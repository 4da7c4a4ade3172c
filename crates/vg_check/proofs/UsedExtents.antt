-- The extents that lie in legs are those that the sorted runs cover.
use Rattle.std.proofs.Common.{◌≡◌, ◌↔◌, ℕ, ◌+◌, ◌*◌, ◌<◌, ◌≤◌, IsTrue, Bool, List, length, map, get_or, take, sym, ap, subst, ◌∙◌, arith}
use Rattle.std.specs.Prelude.{All, AllPairs, Contains}
use Rattle.std.specs.List.{AllAdjacentBelow}
use Rattle.std.specs.List.Sorted.{IsPermutation}
use Rattle.std.proofs.lemmas.List.{get_or-map, length-map}
use Rattle.std.proofs.lemmas.List.Elements.{All-map}
use Rattle.std.proofs.lemmas.List.Sorted.{All-permutation, Contains-permutation, IsPermutation-sym, length_permutation}
use Rattle.std.proofs.lemmas.Option.{same_Some}
use Rattle.meta_model.specs.declared.group.Group.{Group}
use Rattle.meta_model.specs.declared.lv.Lv.{Lv}
use Rattle.meta_model.specs.declared.extent_span.ExtentSpan.{ExtentSpan}
use Rattle.meta_model.specs.declared.segment.On.{On}
use Rattle.meta_model.specs.declared.segment.On.TheVariants as on
use Rattle.volume_rules.specs.Extents.{extents_of}
use Rattle.volume_rules.specs.Legs.{LegRun, runs_of, IsUsed}
use Rattle.volume_rules.specs.Rules.{IsLv, KeepsBelow, LegsLieApart, LegsLieWithin, LiesWithin}
use Rattle.volume_rules.specs.Sorting.{CanBeSorted, EndsBefore, NoExtentInBoth, StandsBefore, on_number, run_to_sort}
use Rattle.volume_rules.proofs.ApartInOrder.{apart_in_order}
use Rattle.volume_rules.proofs.Permuted.{sorted_tells}
use Rattle.volume_rules.proofs.Sorted.{pairwise_from_neighbours}
use Rattle.list_laws.proofs.Fronts.{same_read}
use Rattle.vg_check.specs.Covers.{EndsWithin, IsCovered}
use Rattle.vg_check.specs.Moves.{IsUsedWhole}
use Rattle.vg_check.specs.SortedRuns.{group_runs, HasSortedRuns}
use Rattle.vg_check.proofs.SortedLegs.{runs_sortable, sorted_are}

-- the runs in order, as they are read
pub front_moved : (group : Group) (runs : List ExtentSpan) (count : ℕ) → HasSortedRuns group runs → count ≡ length (group_runs group)
    → IsPermutation (group_runs group) (take count runs)
front_moved group runs count has is = subst (λ n. IsPermutation (group_runs group) (take n runs)) (sym is) has.moved

pub front_long : (group : Group) (runs : List ExtentSpan) (count : ℕ) → HasSortedRuns group runs → count ≡ length (group_runs group)
    → length (take count runs) ≡ count
front_long group runs count has is = length_permutation (group_runs group) (take count runs) (front_moved group runs count has is) ∙ sym is

front_order : (group : Group) (runs : List ExtentSpan) (count : ℕ) → HasSortedRuns group runs → count ≡ length (group_runs group)
    → AllAdjacentBelow StandsBefore (take count runs) (length (take count runs))
front_order group runs count has is =
    subst (AllAdjacentBelow StandsBefore (take count runs)) (sym (front_long group runs count has is))
    (subst (λ n. AllAdjacentBelow StandsBefore (take n runs) n) (sym is) has.order)

pub front_sortable : (group : Group) (runs : List ExtentSpan) (count : ℕ) → KeepsBelow 10 group → HasSortedRuns group runs
    → count ≡ length (group_runs group) → All CanBeSorted (take count runs)
front_sortable group runs count below has is =
    All-permutation CanBeSorted (group_runs group) (take count runs) (front_moved group runs count has is) (runs_sortable group below)

pub front_apart : (group : Group) (runs : List ExtentSpan) (count : ℕ) → KeepsBelow 10 group → LegsLieApart group → HasSortedRuns group runs
    → count ≡ length (group_runs group) → AllPairs EndsBefore (take count runs)
front_apart group runs count below apart has is =
    let pairs : AllPairs NoExtentInBoth (group_runs group) =
    subst (AllPairs NoExtentInBoth) (sorted_are group) ((apart_in_order group).0 apart) in
    pairwise_from_neighbours (take count runs)
    ((sorted_tells (group_runs group) (take count runs) (runs_sortable group below) (front_moved group runs count has is)
    (front_order group runs count has is)).1 pairs)

-- what has the number of a logical volume is it
is_lv : (o : On) (n : ℕ) → on_number o ≡ 2 * n + 1 → o ≡ on.Lv n
is_lv (on.Pv m) n same = absurd (omega arith)
is_lv (on.Lv m) n same = let e : m ≡ n = omega arith in ap on.Lv e

run_within : (group : Group) (n : ℕ) (lv : Lv) (run : LegRun) → IsLv group n lv → LiesWithin group run.on (run.first + run.count)
    → EndsWithin (2 * n + 1) (extents_of lv) (run_to_sort run)
run_within group n lv run is within on_it =
    let there : LiesWithin group (on.Lv n) (run.first + run.count) =
    subst (λ o. LiesWithin group o (run.first + run.count)) (is_lv run.on n on_it) within in
    subst (λ (row : List ℕ × Lv). run.first + run.count ≤ extents_of row.1)
    (same_Some (there.1.0, there.0) (is.0, lv) (sym there.1.1 ∙ is.1)) there.2

pub front_within : (group : Group) (runs : List ExtentSpan) (count n : ℕ) (lv : Lv) → LegsLieWithin group → IsLv group n lv
    → HasSortedRuns group runs → count ≡ length (group_runs group) → All (EndsWithin (2 * n + 1) (extents_of lv)) (take count runs)
front_within group runs count n lv within is has counted =
    All-permutation (EndsWithin (2 * n + 1) (extents_of lv)) (group_runs group) (take count runs) (front_moved group runs count has counted)
    (subst (All (EndsWithin (2 * n + 1) (extents_of lv))) (sorted_are group)
    (All-map (EndsWithin (2 * n + 1) (extents_of lv)) run_to_sort (runs_of group)
    (λ k d lt. run_within group n lv (get_or (runs_of group) k d) is (within k d lt))))

-- an element of what a function gives of a list
in_map : {A B : Type 0} (f : A → B) (xs : List A) (x : A) → Contains xs x → Contains (map f xs) (f x)
in_map f xs x at = (at.0, omega (arith, at.1, length-map xs f), get_or-map f xs at.0 x (f x) at.1 ∙ ap f at.2)

from_map : (runs : List LegRun) (r : ExtentSpan) → Contains (map run_to_sort runs) r
    → (run : LegRun) × Contains runs run × (run_to_sort run ≡ r)
from_map runs r at =
    let none : LegRun = record { lv = 0; segment = 0; leg = 0; on = on.Pv 0; first = 0; count = 0 } in
    let lt : at.0 < length runs = omega (arith, at.1, length-map runs run_to_sort) in
    let run : LegRun = get_or runs at.0 none in
    (run, (at.0, lt, same_read runs at.0 (get_or runs at.0 none) none lt), sym (get_or-map run_to_sort runs at.0 none r lt) ∙ at.2)

-- what the runs cover lies in a leg, and the other way round
covered_is_used : (group : Group) (runs : List ExtentSpan) (count n extent : ℕ) → IsPermutation (group_runs group) (take count runs)
    → IsCovered (take count runs) (2 * n + 1) extent → IsUsed group (on.Lv n) extent
covered_is_used group runs count n extent moved is =
    let there : Contains (group_runs group) is.0 =
    Contains-permutation (take count runs) (group_runs group) is.0 (IsPermutation-sym (group_runs group) (take count runs) moved)
    is.1 in
    let leg = from_map (runs_of group) is.0 (subst (λ xs. Contains xs is.0) (sym (sorted_are group)) there) in
    let run : LegRun = leg.0 in
    let on_is : on_number run.on ≡ 2 * n + 1 = ap (λ (r : ExtentSpan). r.on) leg.2 ∙ is.2 in
    let first : run.first ≡ is.0.first = ap (λ (r : ExtentSpan). r.first) leg.2 in
    let many : run.count ≡ is.0.count = ap (λ (r : ExtentSpan). r.count) leg.2 in
    (run, leg.1, (is_lv run.on n on_is, omega (arith, is.3), omega (arith, is.4)))

used_is_covered : (group : Group) (runs : List ExtentSpan) (count n extent : ℕ) → IsPermutation (group_runs group) (take count runs)
    → IsUsed group (on.Lv n) extent → IsCovered (take count runs) (2 * n + 1) extent
used_is_covered group runs count n extent moved is =
    let there : Contains (group_runs group) (run_to_sort is.0) =
    subst (λ xs. Contains xs (run_to_sort is.0)) (sorted_are group) (in_map run_to_sort (runs_of group) is.0 is.1) in (
      run_to_sort is.0,
      Contains-permutation (group_runs group) (take count runs) (run_to_sort is.0) moved there,
      ap on_number is.2.0,
      is.2.1,
      is.2.2,
    )

-- what the test of runs without a gap says
pub used_tells : (group : Group) (runs : List ExtentSpan) (count n extents : ℕ) (lv : Lv) (answer : Bool) → IsLv group n lv
    → HasSortedRuns group runs → count ≡ length (group_runs group) → extents ≡ extents_of lv
    → IsTrue answer ↔ ((extent : ℕ) → extent < extents → IsCovered (take count runs) (2 * n + 1) extent)
    → IsTrue answer ↔ IsUsedWhole group n
used_tells group runs count n extents lv answer is has counted extents_is tells =
    let moved = front_moved group runs count has counted in (
      λ yes volume there extent lt.
          let same : extents_of volume ≡ extents_of lv =
          ap (λ (row : List ℕ × Lv). extents_of row.1) (same_Some (there.0, volume) (is.0, lv) (sym there.1 ∙ is.1)) in
          covered_is_used group runs count n extent moved (tells.0 yes extent (omega arith)),
      λ used. tells.1 (λ extent lt. used_is_covered group runs count n extent moved (used lv is extent (omega arith))),
    )
