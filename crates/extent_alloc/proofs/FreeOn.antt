-- The free runs of several volumes: each lies on one of these, its extents are free, and they lie apart.
use Rattle.std.proofs.Common.{◌≡◌, ℕ, zero, suc, ◌+◌, ◌-◌, ◌*◌, ◌<◌, ◌≤◌, ◌^◌, ◌≢◌, Bool, true, List, [], ◌∷◌, length, Some, inl, inr, refl}
use Rattle.std.proofs.Common.{sym, ◌∙◌, arith, sum_by, ⊎_elim}
use Rattle.std.specs.Prelude.{All, slice_get}
use Rattle.std.specs.List.{AllByRecursion, filter, list_any, range_with_len}
use Rattle.std.proofs.lemmas.Bool.{cond_both}
use Rattle.std.proofs.lemmas.List.Elements.{All-from_recursion, recursion_from_All}
use Rattle.std.proofs.lemmas.Option.{slice_get_cases}
use Rattle.std.proofs.lemmas.List.Sums.{sum_by-append, sum_by-cons}
use Rattle.meta_model.specs.declared.group.Group.{Group}
use Rattle.meta_model.specs.declared.pv.Pv.{Pv}
use Rattle.volume_rules.specs.Rules.{IsAccepted}
use Rattle.volume_rules.specs.declared.rule.Rule.TheVariants.{Volumes}
use Rattle.extent_map.specs.Covered.{is_in, lvs_on}
use Rattle.extent_map.specs.FreeCount.{all_extents}
use Rattle.extent_map.specs.FreeRuns.{AreFreeRuns, IsFree}
use Rattle.extent_map.specs.declared.extent_run.ExtentRun.{ExtentRun}
use Rattle.extent_map.proofs.LegsOnVolume.{extents_are_few}
use Rattle.extent_alloc.specs.Free.{free_at, free_in, free_on, runs_on, total}
use Rattle.extent_alloc.specs.Giving.{LieApart}
use Rattle.extent_alloc.specs.Usable.{is_usable, usable_pvs}
use Rattle.extent_alloc.specs.declared.part.PvRun.{PvRun}
use Rattle.extent_alloc.specs.declared.request.Request.{Request}
use Rattle.extent_alloc.proofs.FreeLists.{all_of, free_begin, free_runs_are, lies_free}
use Rattle.list_laws.proofs.Pairs.{Pairs, all_append, all_weaker, pairs_append}
use Rattle.extent_alloc.proofs.UnusedRuns.{Begin, Lies, unused_sum}

-- the run has an extent and small numbers, and its extents are free
pub record IsFreeRun (group : Group) (run : PvRun) : Type 0 where
  pub some : 1 ≤ run.count
  pub small : run.first + run.count ≤ 2 ^ 48
  pub free : (extent : ℕ) → run.first ≤ extent → extent < run.first + run.count → IsFree group run.pv extent

-- so for runs of one volume
runs_are_free : (group : Group) (pv at : ℕ) (runs : List ExtentRun) → ((extent : ℕ) → IsFree group pv extent → extent < 2 ^ 48)
    → Begin at runs → ((extent : ℕ) → Lies runs extent → IsFree group pv extent)
    → AllByRecursion (λ run. (run.pv ≡ pv) × IsFreeRun group run) (runs_on pv runs)
runs_are_free group pv at [] small begin free = tt
runs_are_free group pv at (run ∷ runs) small begin free = (
  (
    refl,
    record {
      some = begin.1;
      small =
          let last : run.first + (run.count - 1) < 2 ^ 48 =
          small (run.first + (run.count - 1)) (free (run.first + (run.count - 1)) (inl (omega arith, omega (arith, begin.1)))) in
          omega (arith, begin.1);
      free = λ extent low high. free extent (inl (low, high));
    },
  ),
  runs_are_free group pv (run.first + run.count + 1) runs small begin.2 (λ extent lies. free extent (inr lies)),
)

begin_on : (pv at : ℕ) (runs : List ExtentRun) → Begin at runs → AllByRecursion (λ (run : PvRun). at ≤ run.first) (runs_on pv runs)
begin_on pv at [] begin = tt
begin_on pv at (run ∷ runs) begin = (
  begin.0,
  all_weaker (λ (r : PvRun). run.first + run.count + 1 ≤ r.first) (λ (r : PvRun). at ≤ r.first)
      (λ r le. omega (arith, le, begin.0)) (runs_on pv runs) (begin_on pv (run.first + run.count + 1) runs begin.2),
)

runs_apart : (pv at : ℕ) (runs : List ExtentRun) → Begin at runs → Pairs LieApart (runs_on pv runs)
runs_apart pv at [] begin = tt
runs_apart pv at (run ∷ runs) begin =
    let one : PvRun = record { pv = pv; first = run.first; count = run.count } in (
      all_weaker (λ (r : PvRun). run.first + run.count + 1 ≤ r.first) (LieApart one) (λ r le on extent a b. omega (arith, le, a.2, b.1))
          (runs_on pv runs) (begin_on pv (run.first + run.count + 1) runs begin.2),
      runs_apart pv (run.first + run.count + 1) runs begin.2,
    )

pub free_at_free : (group : Group) (pv : ℕ) (row : List ℕ × Pv) → IsAccepted group → slice_get group.pvs pv ≡ Some row
    → AllByRecursion (λ run. (run.pv ≡ pv) × IsFreeRun group run) (free_at group pv)
free_at_free group pv row accepted is =
    runs_are_free group pv 0 (free_in group pv)
    (λ extent free. let few : free.0.0.1.pe_count < 2 ^ 48 = extents_are_few group pv free.0.0 accepted free.0.1 in omega (arith, free.0.2))
    (free_begin group pv) (λ extent lies. lies_free group pv extent row is lies)

pub free_at_apart : (group : Group) (pv : ℕ) → Pairs LieApart (free_at group pv)
free_at_apart group pv = runs_apart pv 0 (free_in group pv) (free_begin group pv)

-- of several volumes
abbrev pub Stands : Group → ℕ → Type 0
Stands group pv = (row : List ℕ × Pv) × (slice_get group.pvs pv ≡ Some row)

pub free_on_free : (group : Group) (pvs : List ℕ) → IsAccepted group → AllByRecursion (Stands group) pvs
    → AllByRecursion (IsFreeRun group) (free_on group pvs)
free_on_free group [] accepted stand = tt
free_on_free group (pv ∷ pvs) accepted stand =
    all_append (IsFreeRun group) (free_at group pv) (free_on group pvs)
    (all_weaker (λ run. (run.pv ≡ pv) × IsFreeRun group run) (IsFreeRun group) (λ run both. both.1) (free_at group pv)
    (free_at_free group pv stand.0.0 accepted stand.0.1))
    (free_on_free group pvs accepted stand.1)

-- what holds of the volumes holds of those that the runs lie on
at_volume : (P : ℕ → Type 0) (pv : ℕ) (runs : List ExtentRun) → P pv → AllByRecursion (λ (run : PvRun). P run.pv) (runs_on pv runs)
at_volume P pv [] here = tt
at_volume P pv (run ∷ runs) here = (here, at_volume P pv runs here)

pub on_volumes : (P : ℕ → Type 0) (group : Group) (pvs : List ℕ) → AllByRecursion P pvs
    → AllByRecursion (λ (run : PvRun). P run.pv) (free_on group pvs)
on_volumes P group [] all = tt
on_volumes P group (pv ∷ pvs) all =
    all_append (λ (run : PvRun). P run.pv) (free_at group pv) (free_on group pvs) (at_volume P pv (free_in group pv) all.0)
    (on_volumes P group pvs all.1)

pub free_on_apart : (group : Group) (pvs : List ℕ) → Pairs (λ (a b : ℕ). a ≢ b) pvs → Pairs LieApart (free_on group pvs)
free_on_apart group [] differ = tt
free_on_apart group (pv ∷ pvs) differ =
    pairs_append LieApart (free_at group pv) (free_on group pvs) (free_at_apart group pv) (free_on_apart group pvs differ.1)
    (all_weaker (λ (run : PvRun). run.pv ≡ pv) (λ run. AllByRecursion (LieApart run) (free_on group pvs))
    (λ run on.
    all_weaker (λ (other : PvRun). pv ≢ other.pv) (LieApart run) (λ other apart at extent a b. apart (sym on ∙ a.0 ∙ sym b.0))
    (free_on group pvs) (on_volumes (λ (n : ℕ). pv ≢ n) group pvs differ.0))
    (free_at group pv) (at_volume (λ (n : ℕ). n ≡ pv) pv (free_in group pv) refl))

-- the volumes that may be used
usable_from : (group : Group) (want : Request) (from count : ℕ)
    → AllByRecursion (λ pv. (from ≤ pv) × (pv < from + count) × (is_usable group want pv ≡ true))
    (filter (is_usable group want) (range_with_len from count))
usable_from group want from zero = tt
usable_from group want from (suc count) =
    let Usable : ℕ → Type 0 = λ pv. (from ≤ pv) × (pv < from + suc count) × (is_usable group want pv ≡ true) in
    let rest : AllByRecursion Usable (filter (is_usable group want) (range_with_len (from + 1) count)) =
    all_weaker (λ pv. (from + 1 ≤ pv) × (pv < from + 1 + count) × (is_usable group want pv ≡ true)) Usable
    (λ pv all. (omega (arith, all.0), omega (arith, all.1), all.2))
    (filter (is_usable group want) (range_with_len (from + 1) count)) (usable_from group want (from + 1) count) in
    cond_both (is_usable group want from) _ _ (AllByRecursion Usable) (λ is. ((omega arith, omega arith, is), rest)) (λ is. rest)

differ_from : (group : Group) (want : Request) (from count : ℕ)
    → Pairs (λ (a b : ℕ). a ≢ b) (filter (is_usable group want) (range_with_len from count))
differ_from group want from zero = tt
differ_from group want from (suc count) =
    let rest = differ_from group want (from + 1) count in
    cond_both (is_usable group want from) _ _ (Pairs (λ (a b : ℕ). a ≢ b))
    (λ is. (
      all_weaker (λ pv. (from + 1 ≤ pv) × (pv < from + 1 + count) × (is_usable group want pv ≡ true)) (λ pv. from ≢ pv)
          (λ pv all same. omega (arith, all.0, same))
          (filter (is_usable group want) (range_with_len (from + 1) count)) (usable_from group want (from + 1) count),
      rest,
    ))
    (λ is. rest)

pub usable_differ : (group : Group) (want : Request) → Pairs (λ (a b : ℕ). a ≢ b) (usable_pvs group want)
usable_differ group want = differ_from group want 0 (length group.pvs)

pub usable_are : (group : Group) (want : Request)
    → AllByRecursion (λ pv. (pv < length group.pvs) × (is_usable group want pv ≡ true)) (usable_pvs group want)
usable_are group want =
    all_weaker (λ pv. (0 ≤ pv) × (pv < 0 + length group.pvs) × (is_usable group want pv ≡ true))
    (λ pv. (pv < length group.pvs) × (is_usable group want pv ≡ true)) (λ pv all. (omega (arith, all.1), all.2))
    (usable_pvs group want) (usable_from group want 0 (length group.pvs))

-- a number below the count is that of a volume
pub stands : (group : Group) (pv : ℕ) → pv < length group.pvs → Stands group pv
stands group pv lt =
    ⊎_elim (λ found. (found.0, found.2)) (λ past. absurd (omega (arith, lt, past.0))) (slice_get_cases group.pvs pv).1

pub all_stand : (group : Group) (pvs : List ℕ) → AllByRecursion (λ pv. pv < length group.pvs) pvs → AllByRecursion (Stands group) pvs
all_stand group pvs below = all_weaker (λ pv. pv < length group.pvs) (Stands group) (λ pv lt. stands group pv lt) pvs below

-- what `free_runs` gives
pub free_runs_here : (group : Group) (pv : ℕ) (runs : List ExtentRun) → pv < length group.pvs → AreFreeRuns group pv runs
    → runs ≡ free_in group pv
free_runs_here group pv runs lt free = let here = stands group pv lt in free_runs_are group pv here.0 runs here.1 free

-- how many extents are free
total_on : (pv : ℕ) (runs : List ExtentRun) → total (runs_on pv runs) ≡ sum_by (λ (run : ExtentRun). run.count) runs
total_on pv [] = refl
total_on pv (run ∷ runs) =
    let rest = total_on pv runs in
    omega (
      arith,
      rest,
      sum_by-cons (λ (r : ExtentRun). r.count) run runs,
      sum_by-cons (λ (r : PvRun). r.count) (record { pv = pv; first = run.first; count = run.count }) (runs_on pv runs),
    )

pub free_at_few : (group : Group) (pv : ℕ) → IsAccepted group → pv < length group.pvs → total (free_at group pv) < 2 ^ 48
free_at_few group pv accepted lt =
    let here = stands group pv lt in
    let all = unused_sum (λ e. list_any (is_in e) (lvs_on pv group.lvs)) 0 (all_extents group pv) in
    omega (arith, all, total_on pv (free_in group pv), all_of group pv here.0 here.1, extents_are_few group pv here.0 accepted here.1)

pub free_on_few : (group : Group) (pvs : List ℕ) → IsAccepted group → AllByRecursion (λ pv. pv < length group.pvs) pvs
    → total (free_on group pvs) ≤ length pvs * 2 ^ 48
free_on_few group [] accepted below = omega arith
free_on_few group (pv ∷ pvs) accepted below =
    omega (
      arith,
      free_at_few group pv accepted below.0,
      free_on_few group pvs accepted below.1,
      sum_by-append (λ (r : PvRun). r.count) (free_at group pv) (free_on group pvs),
    )

kept_few : (p : ℕ → Bool) (from count : ℕ) → length (filter p (range_with_len from count)) ≤ count
kept_few p from zero = omega arith
kept_few p from (suc count) =
    let rest = kept_few p (from + 1) count in
    cond_both (p from) _ _ (λ some. length some ≤ suc count) (λ is. omega (arith, rest)) (λ is. omega (arith, rest))

pub usable_few : (group : Group) (want : Request) → length (usable_pvs group want) ≤ length group.pvs
usable_few group want = kept_few (is_usable group want) 0 (length group.pvs)

pub usable_below : (group : Group) (want : Request) → All (λ pv. pv < length group.pvs) (usable_pvs group want)
usable_below group want =
    All-from_recursion (λ pv. pv < length group.pvs) (usable_pvs group want)
    (all_weaker (λ pv. (pv < length group.pvs) × (is_usable group want pv ≡ true)) (λ pv. pv < length group.pvs) (λ pv h. h.0)
    (usable_pvs group want) (usable_are group want))

pub usable_total : (group : Group) (want : Request) → IsAccepted group → total (free_on group (usable_pvs group want)) < 2 ^ 64
usable_total group want accepted =
    let few =
    free_on_few group (usable_pvs group want) accepted
    (recursion_from_All (λ pv. pv < length group.pvs) (usable_pvs group want) (usable_below group want)) in
    omega (arith, few, usable_few group want, (accepted Volumes).pvs.1)
