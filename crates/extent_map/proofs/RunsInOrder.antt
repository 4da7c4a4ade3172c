-- Runs that lie apart on one volume can be put in order, and then stand between its extents.
use Rattle.std.proofs.Common.{◌≡◌, ℕ, zero, suc, ◌+◌, ◌≤◌, List, [], ◌∷◌, length, get_or, sum_by, inl, inr, refl, sym, ap, subst, ◌∙◌}
use Rattle.std.proofs.Common.{arith}
use Rattle.std.specs.Prelude.{AllPairs}
use Rattle.std.specs.List.{AllAdjacentBelow, AllByRecursion}
use Rattle.std.proofs.lemmas.Bool.{cases_lt}
use Rattle.std.proofs.lemmas.List.Elements.{All-contains, All-from_recursion}
use Rattle.std.proofs.lemmas.List.Sums.{sum_by-cons}
use Rattle.meta_model.specs.declared.extent_span.ExtentSpan.{ExtentSpan}
use Rattle.volume_rules.specs.Sorting.{EndsBefore, NoExtentInBoth}
use Rattle.extent_map.specs.Gaps.{StandBetween}
use Rattle.extent_map.proofs.CoveredExtents.{Cover, Has, cover_cases, cover_first, cover_later}

-- a run on this volume, which has an extent and ends within so many
pub record Fits (on end : ℕ) (run : ExtentSpan) : Type 0 where
  pub same : run.on ≡ on
  pub some : 1 ≤ run.count
  pub within : run.first + run.count ≤ end

-- runs that were sorted
begin_between : (on at end : ℕ) (run : ExtentSpan) (runs : List ExtentSpan) → at ≤ run.first → AllByRecursion (Fits on end) (run ∷ runs)
    → AllAdjacentBelow EndsBefore (run ∷ runs) (length (run ∷ runs)) → StandBetween at end (run ∷ runs)
begin_between on at end run [] low fit near = (low, fit.0.some, fit.0.within)
begin_between on at end run (next ∷ runs) low fit near =
    (low, fit.0.some, begin_between on (run.first + run.count) end next runs (behind (near zero run (omega arith))) fit.1 later)
  where
    behind : EndsBefore run next → run.first + run.count ≤ next.first
    behind (inl less) = absurd (omega (arith, less, fit.0.same, fit.1.0.same))
    behind (inr ends) = ends.1

    later : AllAdjacentBelow EndsBefore (next ∷ runs) (length (next ∷ runs))
    later k d lt =
        let here : suc k + 1 ≡ suc (k + 1) = omega arith in
        let P : ℕ → Type 0 = λ n. EndsBefore (get_or (next ∷ runs) k d) (get_or (run ∷ next ∷ runs) n d) in
        subst P here (near (suc k) d (omega arith))

pub sorted_between : (on end : ℕ) (runs : List ExtentSpan) → AllByRecursion (Fits on end) runs
    → AllAdjacentBelow EndsBefore runs (length runs) → StandBetween 0 end runs
sorted_between on end [] fit near = omega arith
sorted_between on end (run ∷ runs) fit near = begin_between on 0 end run runs (omega arith) fit near

-- the run where it belongs among runs in order
put : ExtentSpan → List ExtentSpan → List ExtentSpan
put run [] = run ∷ []
put run (next ∷ runs) = elim (cases_lt run.first next.first) [ inl less ↦ run ∷ next ∷ runs | inr more ↦ next ∷ put run runs ]

-- it has no extent of these
abbrev Misses : ExtentSpan → List ExtentSpan → Type 0
Misses run runs = (extent : ℕ) → Has run extent → Cover runs extent → ⊥

put_between : (at end : ℕ) (run : ExtentSpan) (runs : List ExtentSpan) → StandBetween at end runs → at ≤ run.first → 1 ≤ run.count
    → run.first + run.count ≤ end → Misses run runs → StandBetween at end (put run runs)
unfolding put
put_between at end run [] stand low some high misses = (low, some, high)
put_between at end run (next ∷ runs) stand low some high misses =
    elim (cases_lt run.first next.first) as (λ c. StandBetween at end
    (elim c [ inl less ↦ run ∷ next ∷ runs | inr more ↦ next ∷ put run runs ])) [
      | inl less ↦
          elim (cases_lt next.first (run.first + run.count)) [
            | inl meet ↦ absurd (misses next.first (omega arith, meet)
                (cover_first next runs next.first (omega arith, omega (arith, stand.1))))
            | inr apart ↦ (low, some, (apart, stand.1, stand.2))
          ]
      | inr more ↦
          elim (cases_lt run.first (next.first + next.count)) [
            | inl meet ↦ absurd (misses run.first (omega arith, omega arith) (cover_first next runs run.first (more, meet)))
            | inr apart ↦ (
              stand.0,
              stand.1,
              put_between (next.first + next.count) end run runs stand.2 apart some high
                  (λ extent has cover. misses extent has (cover_later next runs extent cover)),
            )
          ]
    ]

put_covers : (run : ExtentSpan) (runs : List ExtentSpan) (extent : ℕ) → Cover (put run runs) extent → Cover (run ∷ runs) extent
unfolding put
put_covers run [] extent cover = cover
put_covers run (next ∷ runs) extent cover =
    let goal : List ExtentSpan → Type 0 = λ some. Cover some extent → Cover (run ∷ next ∷ runs) extent in
    let step : goal (put run (next ∷ runs)) =
    elim (cases_lt run.first next.first) as (λ c. goal (elim c [ inl less ↦ run ∷ next ∷ runs | inr more ↦ next ∷ put run runs ])) [
      | inl less ↦ λ here. here
      | inr more ↦ λ here. cover_cases next (put run runs) extent here
          (λ has. cover_later run (next ∷ runs) extent (cover_first next runs extent has))
          (λ later. cover_cases run runs extent (put_covers run runs extent later) (λ has. cover_first run (next ∷ runs) extent has)
          (λ rest. cover_later run (next ∷ runs) extent (cover_later next runs extent rest)))
    ] in
    step cover

covers_put : (run : ExtentSpan) (runs : List ExtentSpan) (extent : ℕ) → Cover (run ∷ runs) extent → Cover (put run runs) extent
unfolding put
covers_put run [] extent cover = cover
covers_put run (next ∷ runs) extent cover =
    elim (cases_lt run.first next.first) as (λ c. Cover (elim c [ inl less ↦ run ∷ next ∷ runs | inr more ↦ next ∷ put run runs ]) extent) [
      | inl less ↦ cover
      | inr more ↦
          cover_cases run (next ∷ runs) extent cover
          (λ has. cover_later next (put run runs) extent (covers_put run runs extent (cover_first run runs extent has)))
          (λ rest. cover_cases next runs extent rest
          (λ has. cover_first next (put run runs) extent has)
          (λ later. cover_later next (put run runs) extent (covers_put run runs extent (cover_later run runs extent later))))
    ]

put_sum : (run : ExtentSpan) (runs : List ExtentSpan)
    → sum_by (λ (r : ExtentSpan). r.count) (put run runs) ≡ run.count + sum_by (λ (r : ExtentSpan). r.count) runs
unfolding put
put_sum run [] = sum_by-cons (λ (r : ExtentSpan). r.count) run []
put_sum run (next ∷ runs) =
    elim (cases_lt run.first next.first) as (λ c. sum_by (λ (r : ExtentSpan). r.count)
    (elim c [ inl less ↦ run ∷ next ∷ runs | inr more ↦ next ∷ put run runs ])
    ≡ run.count + sum_by (λ (r : ExtentSpan). r.count) (next ∷ runs)) [
      | inl less ↦ sum_by-cons (λ (r : ExtentSpan). r.count) run (next ∷ runs)
      | inr more ↦ omega (
        arith,
        sum_by-cons (λ (r : ExtentSpan). r.count) next (put run runs),
        sum_by-cons (λ (r : ExtentSpan). r.count) next runs,
        put_sum run runs,
      )
    ]

-- the same extents in order
pub record InOrder (end : ℕ) (runs : List ExtentSpan) : Type 0 where
  pub sorted : List ExtentSpan
  pub between : StandBetween 0 end sorted
  pub from : (extent : ℕ) → Cover sorted extent → Cover runs extent
  pub to : (extent : ℕ) → Cover runs extent → Cover sorted extent
  pub sum : sum_by (λ (r : ExtentSpan). r.count) sorted ≡ sum_by (λ (r : ExtentSpan). r.count) runs

pub in_order : (on end : ℕ) (runs : List ExtentSpan) → AllByRecursion (Fits on end) runs → AllPairs NoExtentInBoth runs → InOrder end runs
in_order on end [] fit apart =
    record { sorted = []; between = omega arith; from = λ extent cover. cover; to = λ extent cover. cover; sum = refl }
in_order on end (run ∷ runs) fit apart =
    let rest : InOrder end runs = in_order on end runs fit.1 (λ i j d lt within. apart (suc i) (suc j) d (omega arith) (omega arith)) in
    record {
      sorted = put run rest.sorted;
      between = put_between 0 end run rest.sorted rest.between (omega arith) fit.0.some fit.0.within (misses rest);
      from =
          λ extent cover. cover_cases run rest.sorted extent (put_covers run rest.sorted extent cover)
          (λ has. cover_first run runs extent has) (λ later. cover_later run runs extent (rest.from extent later));
      to =
          λ extent cover. covers_put run rest.sorted extent
          (cover_cases run runs extent cover (λ has. cover_first run rest.sorted extent has)
          (λ later. cover_later run rest.sorted extent (rest.to extent later)));
      sum = put_sum run rest.sorted ∙ ap (λ n. run.count + n) rest.sum ∙ sym (sum_by-cons (λ (r : ExtentSpan). r.count) run runs);
    }
  where
    misses : (rest : InOrder end runs) → Misses run rest.sorted
    misses rest extent has cover =
        let there : Cover runs extent = rest.from extent cover in
        let fits : Fits on end there.0 = All-contains (Fits on end) runs there.0 (All-from_recursion (Fits on end) runs fit.1) there.1 in
        let both : NoExtentInBoth run there.0 =
        subst (NoExtentInBoth run) there.1.2 (apart zero (suc there.1.0) there.0 (omega arith) (omega (arith, there.1.1))) in
        both extent (fit.0.same ∙ sym fits.same) has.0 has.1 there.2.0 there.2.1
