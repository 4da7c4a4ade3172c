-- The longest runs of a volume's free extents have as many extents as its legs leave.
use Rattle.std.proofs.Common.{◌≡◌, ℕ, zero, suc, ◌+◌, ◌-◌, ◌*◌, ◌<◌, ◌≤◌, ◌^◌, List, [], ◌∷◌, ◌++◌, length, get_or, map, sum_by, Some, inl}
use Rattle.std.proofs.Common.{inr, refl, sym, ap, subst, ◌∙◌, arith}
use Rattle.std.specs.Prelude.{All, AllPairs, Contains, slice_get, slice_index_or}
use Rattle.std.specs.List.{AllAdjacentBelow}
use Rattle.std.proofs.lemmas.List.{get_or-map, length-map}
use Rattle.std.proofs.lemmas.List.Elements.{All-append, All-contains, All-map, All-tail, Contains-append_left, Contains-append_right}
use Rattle.std.proofs.lemmas.List.Elements.{Contains-get_or, recursion_from_All}
use Rattle.std.proofs.lemmas.List.Kept.{AllPairs-cons}
use Rattle.std.proofs.lemmas.List.Sums.{sum_by-append, sum_by-cons}
use Rattle.std.proofs.lemmas.Option.{same_Some, slice_get-get_or, slice_get_cases}
use Rattle.meta_model.specs.declared.group.Group.{Group}
use Rattle.meta_model.specs.declared.pv.Pv.{Pv}
use Rattle.meta_model.specs.declared.extent_span.ExtentSpan.{ExtentSpan}
use Rattle.volume_rules.specs.Rules.{IsAccepted}
use Rattle.volume_rules.specs.Sorting.{EndsBefore, NoExtentInBoth}
use Rattle.volume_rules.proofs.LegRuns.{contains_first}
use Rattle.volume_rules.proofs.Sorted.{neighbours_show}
use Rattle.extent_map.specs.declared.extent_run.ExtentRun.{ExtentRun}
use Rattle.extent_map.specs.AllFree.{AreAllFree}
use Rattle.extent_map.specs.Covered.{lvs_on}
use Rattle.extent_map.specs.FreeCount.{all_extents, free_extents}
use Rattle.extent_map.specs.FreeRuns.{AreFreeRuns, IsFree, LiesIn}
use Rattle.extent_map.specs.Gaps.{gaps}
use Rattle.extent_map.proofs.CoveredExtents.{Cover}
use Rattle.extent_map.proofs.GapExtents.{gaps_have, gaps_some, gaps_sum}
use Rattle.extent_map.proofs.LegsOnVolume.{all_fit, covered_where_used, lie_apart_there, used_where_covered}
use Rattle.extent_map.proofs.RunsInOrder.{Fits, InOrder, in_order}
use Rattle.lvm_report.proofs.GroupLine.{count_in, free_are_few}

-- a free run, to be put in order among those of legs
abbrev as_run : ℕ → ExtentRun → ExtentSpan
as_run pv run = record { on = 2 * pv; first = run.first; count = run.count }

-- the free runs of a volume and those of its legs
abbrev both : Group → ℕ → List ExtentRun → List ExtentSpan
both group pv runs = map (as_run pv) runs ++ lvs_on pv group.lvs

sum_of_map : (pv : ℕ) (runs : List ExtentRun)
    → sum_by (λ (run : ExtentSpan). run.count) (map (as_run pv) runs) ≡ sum_by (λ (run : ExtentRun). run.count) runs
sum_of_map pv [] = refl
sum_of_map pv (run ∷ runs) =
    omega (
      arith,
      sum_by-cons (λ (r : ExtentSpan). r.count) (as_run pv run) (map (as_run pv) runs),
      sum_by-cons (λ (r : ExtentRun). r.count) run runs,
      sum_of_map pv runs,
    )

-- each lies within the volume
fits : (group : Group) (pv : ℕ) (row : List ℕ × Pv) (runs : List ExtentRun) (run : ExtentRun) → slice_get group.pvs pv ≡ Some row
    → AreFreeRuns group pv runs → Contains runs run → Fits (2 * pv) row.1.pe_count (as_run pv run)
fits group pv row runs run is free at =
    let some : 1 ≤ run.count = All-contains (λ (r : ExtentRun). 1 ≤ r.count) runs run free.some at in
    let last : ℕ = run.first + (run.count - 1) in
    let lies : IsFree group pv last = (free.free last).0 (run, at, omega arith, omega (arith, some)) in
    let below : last < row.1.pe_count =
    subst (λ (r : List ℕ × Pv). last < r.1.pe_count) (same_Some lies.0.0 row (sym lies.0.1 ∙ is)) lies.0.2 in
    record { same = refl; some = some; within = omega (arith, some, below) }

-- no two share an extent
free_apart : (group : Group) (pv : ℕ) (runs : List ExtentRun) → AreFreeRuns group pv runs → AllPairs NoExtentInBoth (map (as_run pv) runs)
free_apart group pv runs free = neighbours_show (map (as_run pv) runs) near
  where
    near : AllAdjacentBelow EndsBefore (map (as_run pv) runs) (length (map (as_run pv) runs))
    near k d lt =
        let within : k + 1 < length runs = omega (arith, lt, length-map runs (as_run pv)) in
        let e : ExtentRun = record { first = 0; count = 0 } in
        subst (λ (r : ExtentSpan). EndsBefore r (get_or (map (as_run pv) runs) (k + 1) d))
        (sym (get_or-map (as_run pv) runs k e d (omega arith)))
        (subst (EndsBefore (as_run pv (get_or runs k e))) (sym (get_or-map (as_run pv) runs (k + 1) e d within))
        (inr (refl, omega (arith, free.apart k e within))))

pairs_append : {X : Type 0} (R : X → X → Type 0) (xs ys : List X) → AllPairs R xs → AllPairs R ys → All (λ x. All (R x) ys) xs
    → AllPairs R (xs ++ ys)
pairs_append R [] ys left right cross = right
pairs_append R (x ∷ xs) ys left right cross =
    AllPairs-cons R x (xs ++ ys)
    (All-append (R x) xs ys (λ k d lt. left zero (suc k) d (omega arith) (omega arith)) (cross zero x (omega arith)))
    (pairs_append R xs ys (λ i j d lt within. left (suc i) (suc j) d (omega arith) (omega arith)) right
    (All-tail (λ y. All (R y) ys) x xs cross))

free_misses : (group : Group) (pv : ℕ) (runs : List ExtentRun) (run : ExtentRun) → AreFreeRuns group pv runs → Contains runs run
    → All (NoExtentInBoth (as_run pv run)) (lvs_on pv group.lvs)
free_misses group pv runs run free at k d lt extent same low high from to =
    ((free.free extent).0 (run, at, low, high)).1
    (used_where_covered group pv extent (get_or (lvs_on pv group.lvs) k d, Contains-get_or (lvs_on pv group.lvs) k d lt, (from, to)))

-- and they have all extents
one_has : (group : Group) (pv extent : ℕ) (row : List ℕ × Pv) (runs : List ExtentRun) → slice_get group.pvs pv ≡ Some row
    → AreFreeRuns group pv runs → extent < row.1.pe_count → (Cover (both group pv runs) extent → ⊥) → ⊥
one_has group pv extent row runs is free below none =
    let lies : LiesIn runs extent =
    (free.free extent).1 (
      (row, is, below),
      λ used. let cover = covered_where_used group pv extent used in none
          (cover.0, Contains-append_right (map (as_run pv) runs) (lvs_on pv group.lvs) cover.0 cover.1, cover.2),
    )
    in
    let at = lies.1 in
    none (
      as_run pv lies.0,
      Contains-append_left (map (as_run pv) runs) (lvs_on pv group.lvs) (as_run pv lies.0) (
        at.0,
        omega (arith, at.1, length-map runs (as_run pv)),
        get_or-map (as_run pv) runs at.0 lies.0 (as_run pv lies.0) at.1 ∙ ap (as_run pv) at.2,
      ),
      (lies.2, lies.3),
    )

-- so in order they leave no gap
none_left : (runs : List ExtentRun) → All (λ run. 1 ≤ run.count) runs → ((extent : ℕ) → LiesIn runs extent → ⊥)
    → sum_by (λ (run : ExtentRun). run.count) runs ≡ 0
none_left [] some none = refl
none_left (run ∷ runs) some none =
    absurd (none run.first (run, contains_first run runs, omega arith, omega (arith, some zero run (omega arith))))

free_sum : (group : Group) (pv : ℕ) (row : List ℕ × Pv) (runs : List ExtentRun) → IsAccepted group → slice_get group.pvs pv ≡ Some row
    → AreFreeRuns group pv runs → sum_by (λ (run : ExtentRun). run.count) runs ≡ free_extents group pv
free_sum group pv row runs accepted is free =
    let end : ℕ = row.1.pe_count in
    let legs : List ExtentSpan = lvs_on pv group.lvs in
    let fit : All (Fits (2 * pv) end) (both group pv runs) =
    All-append (Fits (2 * pv) end) (map (as_run pv) runs) legs
    (All-map (Fits (2 * pv) end) (as_run pv) runs
    (λ k d lt. fits group pv row runs (get_or runs k d) is free (Contains-get_or runs k d lt)))
    (all_fit group pv row accepted is)
    in
    let apart : AllPairs NoExtentInBoth (both group pv runs) =
    pairs_append NoExtentInBoth (map (as_run pv) runs) legs (free_apart group pv runs free) (lie_apart_there group pv accepted)
    (All-map (λ run. All (NoExtentInBoth run) legs) (as_run pv) runs
    (λ k d lt. free_misses group pv runs (get_or runs k d) free (Contains-get_or runs k d lt)))
    in
    let ordered : InOrder end (both group pv runs) =
    in_order (2 * pv) end (both group pv runs) (recursion_from_All (Fits (2 * pv) end) (both group pv runs) fit) apart in
    let left : sum_by (λ (run : ExtentRun). run.count) (gaps 0 end ordered.sorted) ≡ 0 =
    none_left (gaps 0 end ordered.sorted) (gaps_some 0 end ordered.sorted)
    (λ extent lies. let has = gaps_have 0 end extent ordered.sorted ordered.between lies in one_has group pv extent row runs is free has.1
    (λ cover. has.2 (ordered.to extent cover)))
    in
    let all : all_extents group pv ≡ end = ap count_in is in
    omega (
      arith,
      gaps_sum 0 end ordered.sorted ordered.between,
      left,
      ordered.sum,
      sum_by-append (λ (run : ExtentSpan). run.count) (map (as_run pv) runs) legs,
      sum_of_map pv runs,
      all,
    )

-- of the volume with this number among all
pub free_there : (group : Group) (all : List (List ExtentRun)) (pv : ℕ) (runs d : List ExtentRun) → IsAccepted group → AreAllFree group all
    → pv < length all → runs ≡ slice_index_or all pv d
    → (sum_by (λ (run : ExtentRun). run.count) runs ≡ free_extents group pv) × (sum_by (λ (run : ExtentRun). run.count) runs < 2 ^ 48)
free_there group all pv runs d accepted free lt is = (sum, omega (arith, sum, free_are_few group pv accepted))
  where
    there : slice_get all pv ≡ Some runs
    there = slice_get-get_or all pv d lt ∙ ap Some (sym is)

    sum : sum_by (λ (run : ExtentRun). run.count) runs ≡ free_extents group pv
    sum = elim (slice_get_cases group.pvs pv).1 [
      | inl some ↦ free_sum group pv some.0 runs accepted some.2 (free.each pv runs there)
      | inr none ↦ absurd (omega (arith, lt, free.count, none.0))
    ]
