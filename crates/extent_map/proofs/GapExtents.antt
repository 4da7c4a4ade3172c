-- The gaps between runs in order are the longest runs of what they don't cover.
use Rattle.std.proofs.Common.{◌≡◌, ℕ, zero, suc, ◌+◌, ◌-◌, ◌<◌, ◌≤◌, List, [], ◌∷◌, ◌++◌, length, get_or, sum_by, ⊎_elim, inl, inr, sym, ap}
use Rattle.std.proofs.Common.{subst, ◌∙◌, drop, drop-cons, arith}
use Rattle.std.specs.Prelude.{All, nat_lt}
use Rattle.std.specs.List.{AllAdjacentBelow}
use Rattle.std.proofs.lemmas.Bool.{cases_lt, cond-true, cond-false, lt-ltb, le-ltb}
use Rattle.std.proofs.lemmas.List.Elements.{All-append, All-cons, Contains-append_cases, Contains-append_left, Contains-append_right}
use Rattle.std.proofs.lemmas.List.Sums.{sum_by-append, sum_by-cons}
use Rattle.meta_model.specs.declared.extent_span.ExtentSpan.{ExtentSpan}
use Rattle.volume_rules.proofs.LegRuns.{contains_first}
use Rattle.extent_map.specs.declared.extent_run.ExtentRun.{ExtentRun}
use Rattle.extent_map.specs.FreeRuns.{LiesIn}
use Rattle.extent_map.specs.Gaps.{StandBetween, gap, gaps}
use Rattle.extent_map.proofs.CoveredExtents.{Cover, cover_cases, cover_first, cover_later}

some_gap : (from to : ℕ) → from < to → gap from to ≡ record { first = from; count = to - from } ∷ []
some_gap from to lt = cond-true (nat_lt from to) _ _ (lt-ltb from to lt)

no_gap : (from to : ℕ) → to ≤ from → gap from to ≡ []
no_gap from to le = cond-false (nat_lt from to) _ _ (le-ltb from to le)

-- the runs lie between
pub in_between : (at end : ℕ) (runs : List ExtentSpan) → StandBetween at end runs → at ≤ end
in_between at end [] stand = stand
in_between at end (run ∷ runs) stand =
    let rest : run.first + run.count ≤ end = in_between (run.first + run.count) end runs stand.2 in omega (arith, stand.0)

covers_between : (at end extent : ℕ) (runs : List ExtentSpan) → StandBetween at end runs → Cover runs extent
    → (at ≤ extent) × (extent < end)
covers_between at end extent [] stand cover = absurd (omega (arith, cover.1.1))
covers_between at end extent (run ∷ runs) stand cover =
    let rest : run.first + run.count ≤ end = in_between (run.first + run.count) end runs stand.2 in
    cover_cases run runs extent cover
    (λ has. (omega (arith, stand.0, has.0), omega (arith, has.1)))
    (λ later. let both = covers_between (run.first + run.count) end extent runs stand.2 later in (omega (arith, stand.0, both.0), both.1))

-- what a gap has
lies_in_gap : (from to extent : ℕ) → from ≤ extent → extent < to → LiesIn (gap from to) extent
lies_in_gap from to extent low high =
    let run : ExtentRun = record { first = from; count = to - from } in
    subst (λ (runs : List ExtentRun). LiesIn runs extent) (sym (some_gap from to (omega arith)))
    (run, contains_first run [], low, omega arith)

gap_has : (from to extent : ℕ) → LiesIn (gap from to) extent → (from ≤ extent) × (extent < to)
gap_has from to extent lies =
    elim (cases_lt from to) [
      | inl less ↦ one_has (subst (λ (runs : List ExtentRun). LiesIn runs extent) (some_gap from to less) lies)
      | inr more ↦ absurd (none_has (subst (λ (runs : List ExtentRun). LiesIn runs extent) (no_gap from to more) lies))
    ]
  where
    none_has : LiesIn [] extent → ⊥
    none_has lies = omega (arith, lies.1.1)

    one_has : LiesIn (record { first = from; count = to - from } ∷ []) extent → (from ≤ extent) × (extent < to)
    one_has (run, (zero, lt, is), low, high) = (
      omega (arith, low, ap (λ (r : ExtentRun). r.first) is),
      omega (arith, low, high, ap (λ (r : ExtentRun). r.first) is, ap (λ (r : ExtentRun). r.count) is),
    )
    one_has (run, (suc k, lt, is), low, high) = absurd (omega (arith, lt))

lies_left : (a b : List ExtentRun) (extent : ℕ) → LiesIn a extent → LiesIn (a ++ b) extent
lies_left a b extent lies = (lies.0, Contains-append_left a b lies.0 lies.1, lies.2, lies.3)

lies_right : (a b : List ExtentRun) (extent : ℕ) → LiesIn b extent → LiesIn (a ++ b) extent
lies_right a b extent lies = (lies.0, Contains-append_right a b lies.0 lies.1, lies.2, lies.3)

lies_cases : {P : Type 0} (a b : List ExtentRun) (extent : ℕ) → LiesIn (a ++ b) extent → (LiesIn a extent → P) → (LiesIn b extent → P) → P
lies_cases a b extent lies left right =
    ⊎_elim (λ at. left (lies.0, at, lies.2, lies.3)) (λ at. right (lies.0, at, lies.2, lies.3)) (Contains-append_cases a b lies.0 lies.1)

-- what the gaps have lies between, and no run has it
pub gaps_have : (at end extent : ℕ) (runs : List ExtentSpan) → StandBetween at end runs → LiesIn (gaps at end runs) extent
    → (at ≤ extent) × (extent < end) × (Cover runs extent → ⊥)
gaps_have at end extent [] stand lies = let both = gap_has at end extent lies in (both.0, both.1, λ cover. omega (arith, cover.1.1))
gaps_have at end extent (run ∷ runs) stand lies =
    let rest : run.first + run.count ≤ end = in_between (run.first + run.count) end runs stand.2 in
    lies_cases (gap at run.first) (gaps (run.first + run.count) end runs) extent lies
    (λ here. let both = gap_has at run.first extent here in (
      both.0,
      omega (arith, both.1),
      λ cover. cover_cases run runs extent cover (λ has. omega (arith, both.1, has.0))
          (λ later. omega (arith, both.1, (covers_between (run.first + run.count) end extent runs stand.2 later).0)),
    ))
    (λ there. let all = gaps_have (run.first + run.count) end extent runs stand.2 there in (
      omega (arith, stand.0, all.0),
      all.1,
      λ cover. cover_cases run runs extent cover (λ has. omega (arith, all.0, has.1)) all.2,
    ))

-- and they have all of that
pub lies_in_gaps : (at end extent : ℕ) (runs : List ExtentSpan) → StandBetween at end runs → at ≤ extent → extent < end
    → (Cover runs extent → ⊥) → LiesIn (gaps at end runs) extent
lies_in_gaps at end extent [] stand low high free = lies_in_gap at end extent low high
lies_in_gaps at end extent (run ∷ runs) stand low high free =
    elim (cases_lt extent run.first) [
      | inl before ↦ lies_left (gap at run.first) (gaps (run.first + run.count) end runs) extent
          (lies_in_gap at run.first extent low before)
      | inr behind ↦
          elim (cases_lt extent (run.first + run.count)) [
            | inl within ↦ absurd (free (cover_first run runs extent (behind, within)))
            | inr after ↦ lies_right (gap at run.first) (gaps (run.first + run.count) end runs) extent
                (lies_in_gaps (run.first + run.count) end extent runs stand.2 after high
                (λ cover. free (cover_later run runs extent cover)))
          ]
    ]

-- each gap has an extent
gap_some : (from to : ℕ) → All (λ (run : ExtentRun). 1 ≤ run.count) (gap from to)
gap_some from to =
    elim (cases_lt from to) [
      | inl less ↦ subst (All (λ (run : ExtentRun). 1 ≤ run.count)) (sym (some_gap from to less))
          (All-cons (λ (run : ExtentRun). 1 ≤ run.count) (record { first = from; count = to - from }) [] (omega arith)
          (λ k d lt. absurd (omega arith)))
      | inr more ↦ subst (All (λ (run : ExtentRun). 1 ≤ run.count)) (sym (no_gap from to more)) (λ k d lt. absurd (omega arith))
    ]

pub gaps_some : (at end : ℕ) (runs : List ExtentSpan) → All (λ (run : ExtentRun). 1 ≤ run.count) (gaps at end runs)
gaps_some at end [] = gap_some at end
gaps_some at end (run ∷ runs) =
    All-append (λ (run : ExtentRun). 1 ≤ run.count) (gap at run.first) (gaps (run.first + run.count) end runs) (gap_some at run.first)
    (gaps_some (run.first + run.count) end runs)

-- between two gaps lies an extent: each begins at this extent or later
Begin : ℕ → List ExtentRun → Type 0
Begin at [] = Unit {0}
Begin at (run ∷ runs) = (at ≤ run.first) × Begin (run.first + run.count + 1) runs

begin_earlier : (at later : ℕ) (runs : List ExtentRun) → at ≤ later → Begin later runs → Begin at runs
unfolding Begin
begin_earlier at later [] le begin = tt
begin_earlier at later (run ∷ runs) le begin = (omega (arith, begin.0), begin.1)

begin_gap : (from to : ℕ) (runs : List ExtentRun) → Begin (to + 1) runs → Begin from runs → Begin from (gap from to ++ runs)
unfolding Begin
begin_gap from to runs later begin =
    elim (cases_lt from to) [
      | inl less ↦ subst (λ (some : List ExtentRun). Begin from (some ++ runs)) (sym (some_gap from to less))
          (omega arith, begin_earlier (from + (to - from) + 1) (to + 1) runs (omega arith) later)
      | inr more ↦ subst (λ (some : List ExtentRun). Begin from (some ++ runs)) (sym (no_gap from to more)) begin
    ]

gaps_begin : (at end : ℕ) (runs : List ExtentSpan) → StandBetween at end runs → Begin at (gaps at end runs)
unfolding Begin
gaps_begin at end [] stand =
    elim (cases_lt at end) [
      | inl less ↦ subst (Begin at) (sym (some_gap at end less)) (omega arith, tt)
      | inr more ↦ subst (Begin at) (sym (no_gap at end more)) tt
    ]
gaps_begin at end (run ∷ runs) stand =
    let rest : Begin (run.first + run.count) (gaps (run.first + run.count) end runs) =
    gaps_begin (run.first + run.count) end runs stand.2 in
    begin_gap at run.first (gaps (run.first + run.count) end runs)
    (begin_earlier (run.first + 1) (run.first + run.count) _ (omega (arith, stand.1)) rest)
    (begin_earlier at (run.first + run.count) _ (omega (arith, stand.0)) rest)

apart_from : (at : ℕ) (runs : List ExtentRun) → Begin at runs
    → AllAdjacentBelow (λ (a b : ExtentRun). a.first + a.count < b.first) runs (length runs)
unfolding Begin
apart_from at [] begin k d lt = absurd (omega arith)
apart_from at (run ∷ []) begin k d lt = absurd (omega arith)
apart_from at (run ∷ next ∷ runs) begin zero d lt = omega (arith, begin.1.0)
apart_from at (run ∷ next ∷ runs) begin (suc k) d lt =
    let here : suc (k + 1) ≡ suc k + 1 = omega arith in
    let P : ℕ → Type 0 =
    λ n. (get_or (next ∷ runs) k d).first + (get_or (next ∷ runs) k d).count < (get_or (run ∷ next ∷ runs) n d).first in
    subst P here (apart_from (run.first + run.count + 1) (next ∷ runs) begin.1 k d (omega arith))

pub gaps_apart : (at end : ℕ) (runs : List ExtentSpan) → StandBetween at end runs
    → AllAdjacentBelow (λ (a b : ExtentRun). a.first + a.count < b.first) (gaps at end runs) (length (gaps at end runs))
gaps_apart at end runs stand = apart_from at (gaps at end runs) (gaps_begin at end runs stand)

-- runs and gaps have all extents
gap_sum : (from to : ℕ) → from ≤ to → from + sum_by (λ (run : ExtentRun). run.count) (gap from to) ≡ to
gap_sum from to le =
    elim (cases_lt from to) [
      | inl less ↦ ap (λ (runs : List ExtentRun). from + sum_by (λ (run : ExtentRun). run.count) runs) (some_gap from to less) ∙ omega arith
      | inr more ↦ ap (λ (runs : List ExtentRun). from + sum_by (λ (run : ExtentRun). run.count) runs) (no_gap from to more) ∙ omega arith
    ]

pub gaps_sum : (at end : ℕ) (runs : List ExtentSpan) → StandBetween at end runs
    → at + sum_by (λ (run : ExtentRun). run.count) (gaps at end runs) + sum_by (λ (run : ExtentSpan). run.count) runs ≡ end
gaps_sum at end [] stand = let all : at + sum_by (λ (run : ExtentRun). run.count) (gap at end) ≡ end = gap_sum at end stand in omega arith
gaps_sum at end (run ∷ runs) stand =
    let here : at + sum_by (λ (run : ExtentRun). run.count) (gap at run.first) ≡ run.first = gap_sum at run.first stand.0 in
    let rest : run.first + run.count + sum_by (λ (run : ExtentRun). run.count) (gaps (run.first + run.count) end runs)
    + sum_by (λ (run : ExtentSpan). run.count) runs ≡ end = gaps_sum (run.first + run.count) end runs stand.2 in
    let both = sum_by-append (λ (run : ExtentRun). run.count) (gap at run.first) (gaps (run.first + run.count) end runs) in
    let all = sum_by-cons (λ (run : ExtentSpan). run.count) run runs in
    omega (arith, here, rest, both, all)

-- the next run ends before the end
pub next_within : (at end : ℕ) (runs : List ExtentSpan) (i : ℕ) (d : ExtentSpan) → i < length runs → StandBetween at end (drop i runs)
    → (get_or runs i d).first + (get_or runs i d).count ≤ end
next_within at end runs i d lt stand =
    let run : ExtentSpan = get_or runs i d in
    let rest : StandBetween at end (run ∷ drop (suc i) runs) = subst (StandBetween at end) (drop-cons runs i d lt) stand in
    in_between (run.first + run.count) end (drop (suc i) runs) rest.2
