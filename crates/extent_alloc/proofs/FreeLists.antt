-- The free runs of a physical volume are those that are made extent by extent.
use Rattle.std.proofs.Common.{◌≡◌, ℕ, zero, suc, ◌+◌, ◌<◌, ◌≤◌, true, false, List, [], ◌∷◌, length, get_or, Some, inl, inr, sym, ap, subst}
use Rattle.std.proofs.Common.{◌∙◌, arith, ⊎_elim}
use Rattle.std.specs.Prelude.{All, option_map, slice_get, unwrap_or}
use Rattle.std.specs.List.{AllAdjacentBelow, list_any}
use Rattle.std.proofs.lemmas.Bool.{cases_Bool, false≢true}
use Rattle.std.proofs.lemmas.List.Elements.{All-tail}
use Rattle.meta_model.specs.declared.group.Group.{Group}
use Rattle.meta_model.specs.declared.pv.Pv.{Pv}
use Rattle.volume_rules.proofs.LegRuns.{contains_first, contains_later}
use Rattle.extent_map.specs.Covered.{is_in, lvs_on}
use Rattle.extent_map.specs.FreeCount.{all_extents}
use Rattle.extent_map.specs.FreeRuns.{AreFreeRuns, IsFree, LiesIn}
use Rattle.extent_map.specs.declared.extent_run.ExtentRun.{ExtentRun}
use Rattle.extent_map.proofs.CoveredExtents.{cover_found, cover_from}
use Rattle.extent_map.proofs.LegsOnVolume.{covered_where_used, used_where_covered}
use Rattle.extent_alloc.specs.Free.{free_in}
use Rattle.extent_alloc.proofs.UnusedRuns.{Begin, Lies, lies_unused, same_runs, unused_begin, unused_has}

-- both ways of saying that one of the runs has the extent
lies_from : (runs : List ExtentRun) (extent : ℕ) → LiesIn runs extent → Lies runs extent
lies_from [] extent lies = absurd (omega (arith, lies.1.1))
lies_from (run ∷ runs) extent (one, (zero, lt, is), low, high) =
    inl (subst (λ (r : ExtentRun). r.first ≤ extent) (sym is) low, subst (λ (r : ExtentRun). extent < r.first + r.count) (sym is) high)
lies_from (run ∷ runs) extent (one, (suc k, lt, is), low, high) = inr (lies_from runs extent (one, (k, omega (arith, lt), is), low, high))

pub lies_to : (runs : List ExtentRun) (extent : ℕ) → Lies runs extent → LiesIn runs extent
lies_to [] extent lies = absurd lies
lies_to (run ∷ runs) extent (inl has) = (run, contains_first run runs, has.0, has.1)
lies_to (run ∷ runs) extent (inr later) =
    let rest = lies_to runs extent later in (rest.0, contains_later run rest.0 runs rest.1, rest.2, rest.3)

-- and that they lie apart
begin_of : (at : ℕ) (run : ExtentRun) (runs : List ExtentRun) → at ≤ run.first → All (λ (r : ExtentRun). 1 ≤ r.count) (run ∷ runs)
    → AllAdjacentBelow (λ (a b : ExtentRun). a.first + a.count < b.first) (run ∷ runs) (length (run ∷ runs)) → Begin at (run ∷ runs)
begin_of at run [] low some apart = (low, some zero run (omega arith), tt)
begin_of at run (next ∷ runs) low some apart = (
  low,
  some zero run (omega arith),
  begin_of (run.first + run.count + 1) next runs behind
      (All-tail (λ (r : ExtentRun). 1 ≤ r.count) run (next ∷ runs) some) later,
)
  where
    behind : run.first + run.count + 1 ≤ next.first
    behind = let near : run.first + run.count < next.first = apart zero run (omega arith) in omega arith

    later : AllAdjacentBelow (λ (a b : ExtentRun). a.first + a.count < b.first) (next ∷ runs) (length (next ∷ runs))
    later k d lt =
        let here : suc k + 1 ≡ suc (k + 1) = omega arith in
        let P : ℕ → Type 0 =
        λ n. (get_or (next ∷ runs) k d).first + (get_or (next ∷ runs) k d).count < (get_or (run ∷ next ∷ runs) n d).first in
        subst P here (apart (suc k) d (omega arith))

begin_from : (group : Group) (pv : ℕ) (runs : List ExtentRun) → AreFreeRuns group pv runs → Begin 0 runs
begin_from group pv [] free = tt
begin_from group pv (run ∷ runs) free = begin_of 0 run runs (omega arith) free.some free.apart

-- which extents are free
pub all_of : (group : Group) (pv : ℕ) (row : List ℕ × Pv) → slice_get group.pvs pv ≡ Some row → all_extents group pv ≡ row.1.pe_count
all_of group pv row is = ap (λ found. unwrap_or (option_map (λ (r : List ℕ × Pv). r.1.pe_count) found) 0) is

pub free_lies : (group : Group) (pv extent : ℕ) → IsFree group pv extent → Lies (free_in group pv) extent
free_lies group pv extent free =
    lies_unused (λ e. list_any (is_in e) (lvs_on pv group.lvs)) 0 (all_extents group pv) extent (omega arith)
    (omega (arith, free.0.2, all_of group pv free.0.0 free.0.1))
    (⊎_elim (λ (used : list_any (is_in extent) (lvs_on pv group.lvs) ≡ true). absurd
    (free.1 (used_where_covered group pv extent (cover_from extent (lvs_on pv group.lvs) used))))
    (λ (free : list_any (is_in extent) (lvs_on pv group.lvs) ≡ false). free)
    (cases_Bool (list_any (is_in extent) (lvs_on pv group.lvs))))

pub lies_free : (group : Group) (pv extent : ℕ) (row : List ℕ × Pv) → slice_get group.pvs pv ≡ Some row → Lies (free_in group pv) extent
    → IsFree group pv extent
lies_free group pv extent row is lies =
    let all = unused_has (λ e. list_any (is_in e) (lvs_on pv group.lvs)) 0 (all_extents group pv) extent lies in (
      (row, is, omega (arith, all.1, all_of group pv row is)),
      λ used. false≢true (sym all.2 ∙ cover_found extent (lvs_on pv group.lvs) (covered_where_used group pv extent used)),
    )

pub free_begin : (group : Group) (pv : ℕ) → Begin 0 (free_in group pv)
free_begin group pv = unused_begin (λ e. list_any (is_in e) (lvs_on pv group.lvs)) 0 (all_extents group pv)

-- so they are one list
pub free_runs_are : (group : Group) (pv : ℕ) (row : List ℕ × Pv) (runs : List ExtentRun) → slice_get group.pvs pv ≡ Some row
    → AreFreeRuns group pv runs → runs ≡ free_in group pv
free_runs_are group pv row runs is free =
    same_runs 0 0 runs (free_in group pv) (begin_from group pv runs free) (free_begin group pv)
    (λ extent lies. free_lies group pv extent ((free.free extent).0 (lies_to runs extent lies)))
    (λ extent lies. lies_from runs extent ((free.free extent).1 (lies_free group pv extent row is lies)))
