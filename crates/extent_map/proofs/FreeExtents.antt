-- The gaps between the runs on a volume are its free runs.
use Rattle.std.proofs.Common.{◌≡◌, ℕ, ◌+◌, ◌*◌, ◌<◌, List, length, Some, sum_by, sym, subst, ◌∙◌, arith}
use Rattle.std.specs.Prelude.{All, slice_get}
use Rattle.std.specs.List.{AllAdjacentBelow}
use Rattle.std.specs.List.Sorted.{IsPermutation}
use Rattle.std.proofs.lemmas.List.Elements.{recursion_from_All}
use Rattle.std.proofs.lemmas.List.Sorted.{All-permutation, IsPermutation-sym}
use Rattle.std.proofs.lemmas.Option.{same_Some}
use Rattle.meta_model.specs.declared.group.Group.{Group}
use Rattle.meta_model.specs.declared.pv.Pv.{Pv}
use Rattle.meta_model.specs.declared.extent_span.ExtentSpan.{ExtentSpan}
use Rattle.volume_rules.specs.Rules.{IsAccepted}
use Rattle.volume_rules.specs.Sorting.{StandsBefore}
use Rattle.volume_rules.proofs.Permuted.{sorted_tells}
use Rattle.extent_map.specs.declared.extent_run.ExtentRun.{ExtentRun}
use Rattle.extent_map.specs.Covered.{extents_in, lvs_on}
use Rattle.extent_map.specs.FreeRuns.{AreFreeRuns, IsFree, LiesIn}
use Rattle.extent_map.specs.Gaps.{StandBetween, gaps}
use Rattle.extent_map.proofs.CoveredExtents.{Cover, cover_permuted}
use Rattle.extent_map.proofs.GapExtents.{gaps_apart, gaps_have, gaps_some, gaps_sum, lies_in_gaps}
use Rattle.extent_map.proofs.LegsOnVolume.{all_fit, can_sort, covered_where_used, lie_apart_there, used_where_covered}
use Rattle.extent_map.proofs.RunsInOrder.{Fits, InOrder, in_order, sorted_between}

-- those between runs in order that cover the same
pub are_free : (group : Group) (pv : ℕ) (row : List ℕ × Pv) (runs : List ExtentSpan) → slice_get group.pvs pv ≡ Some row
    → StandBetween 0 row.1.pe_count runs
    → ((extent : ℕ) → Cover runs extent → Cover (lvs_on pv group.lvs) extent)
    → ((extent : ℕ) → Cover (lvs_on pv group.lvs) extent → Cover runs extent)
    → AreFreeRuns group pv (gaps 0 row.1.pe_count runs)
are_free group pv row runs is stand from to = record {
  some = gaps_some 0 row.1.pe_count runs;
  free = λ extent. (free_from extent, free_to extent);
  apart = gaps_apart 0 row.1.pe_count runs stand;
}
  where
    free_from : (extent : ℕ) → LiesIn (gaps 0 row.1.pe_count runs) extent → IsFree group pv extent
    free_from extent lies =
        let all = gaps_have 0 row.1.pe_count extent runs stand lies in
        ((row, is, all.1), λ used. all.2 (to extent (covered_where_used group pv extent used)))

    free_to : (extent : ℕ) → IsFree group pv extent → LiesIn (gaps 0 row.1.pe_count runs) extent
    free_to extent free =
        let below : extent < row.1.pe_count =
        subst (λ (r : List ℕ × Pv). extent < r.1.pe_count) (same_Some free.0.0 row (sym free.0.1 ∙ is)) free.0.2 in
        lies_in_gaps 0 row.1.pe_count extent runs stand (omega arith) below
        (λ cover. free.1 (used_where_covered group pv extent (from extent cover)))

-- once the runs were sorted, they stand in order
pub sorted_stand : (group : Group) (pv : ℕ) (row : List ℕ × Pv) (runs : List ExtentSpan) → IsAccepted group
    → slice_get group.pvs pv ≡ Some row → IsPermutation (lvs_on pv group.lvs) runs → AllAdjacentBelow StandsBefore runs (length runs)
    → StandBetween 0 row.1.pe_count runs
sorted_stand group pv row runs accepted is moved order =
    let fit : All (Fits (2 * pv) row.1.pe_count) runs =
    All-permutation (Fits (2 * pv) row.1.pe_count) (lvs_on pv group.lvs) runs moved (all_fit group pv row accepted is) in
    sorted_between (2 * pv) row.1.pe_count runs (recursion_from_All (Fits (2 * pv) row.1.pe_count) runs fit)
    ((sorted_tells (lvs_on pv group.lvs) runs (can_sort group pv row accepted is) moved order).1 (lie_apart_there group pv accepted))

-- and their gaps are free
pub sorted_are_free : (group : Group) (pv : ℕ) (row : List ℕ × Pv) (runs : List ExtentSpan) → IsAccepted group
    → slice_get group.pvs pv ≡ Some row → IsPermutation (lvs_on pv group.lvs) runs → AllAdjacentBelow StandsBefore runs (length runs)
    → AreFreeRuns group pv (gaps 0 row.1.pe_count runs)
sorted_are_free group pv row runs accepted is moved order =
    are_free group pv row runs is (sorted_stand group pv row runs accepted is moved order)
    (λ extent cover. cover_permuted runs (lvs_on pv group.lvs) extent (IsPermutation-sym (lvs_on pv group.lvs) runs moved) cover)
    (λ extent cover. cover_permuted (lvs_on pv group.lvs) runs extent moved cover)

-- free and covered extents are all of the volume
pub free_and_covered : (group : Group) (pv : ℕ) (row : List ℕ × Pv) → IsAccepted group → slice_get group.pvs pv ≡ Some row
    → (runs : List ExtentRun) × AreFreeRuns group pv runs
    × (sum_by (λ (run : ExtentRun). run.count) runs + extents_in (lvs_on pv group.lvs) ≡ row.1.pe_count)
free_and_covered group pv row accepted is =
    let ordered : InOrder row.1.pe_count (lvs_on pv group.lvs) =
    in_order (2 * pv) row.1.pe_count (lvs_on pv group.lvs)
    (recursion_from_All (Fits (2 * pv) row.1.pe_count) _ (all_fit group pv row accepted is)) (lie_apart_there group pv accepted) in (
      gaps 0 row.1.pe_count ordered.sorted,
      are_free group pv row ordered.sorted is ordered.between ordered.from ordered.to,
      omega (arith, gaps_sum 0 row.1.pe_count ordered.sorted ordered.between, ordered.sum),
    )
