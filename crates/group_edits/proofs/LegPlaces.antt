-- A leg's run by its place: the numbers of its volume, of its segment there and of the leg there.
use Rattle.std.proofs.Common.{◌≡◌, ◌≢◌, ◌≤◌, ℕ, ◌+◌, List, [], ◌∷◌, ◌++◌, get_or, refl, sym, ap, ◌∙◌, arith}
use Rattle.std.specs.Prelude.{slice_get, AllPairs, Contains}
use Rattle.std.specs.List.{AllByRecursion as Each}
use Rattle.std.proofs.lemmas.List.Elements.{All-from_recursion}
use Rattle.std.proofs.lemmas.List.Kept.{AllPairs-cons}
use Rattle.std.proofs.lemmas.Option.{same_Some}
use Rattle.meta_model.specs.Runs.{legs_of}
use Rattle.meta_model.specs.declared.group.Group.{Group}
use Rattle.meta_model.specs.declared.lv.Lv.{Lv}
use Rattle.meta_model.specs.declared.segment.Leg.{Leg}
use Rattle.meta_model.specs.declared.segment.Segment.{Segment}
use Rattle.volume_rules.proofs.LegRuns.{IsRunOf, join_all, run_is}
use Rattle.volume_rules.specs.Extents.{leg_share}
use Rattle.volume_rules.specs.Legs.{LegRun, runs_of, runs_of_legs, runs_of_segments, runs_of_volumes}
use Rattle.group_edits.proofs.Selections.{pairs_both}

-- ---- no two legs have the same place

each_weaker : (P Q : LegRun → Type 0) → ((run : LegRun) → P run → Q run) → (runs : List LegRun) → Each P runs → Each Q runs
each_weaker P Q step [] all = tt
each_weaker P Q step (run ∷ runs) all = (step run all.0, each_weaker P Q step runs all.1)

-- numbers from one on
legs_from : (lv segment count n : ℕ) (legs : List Leg)
    → Each (λ run. (run.lv ≡ lv) × (run.segment ≡ segment) × (n ≤ run.leg)) (runs_of_legs lv segment count n legs)
legs_from lv segment count n [] = tt
legs_from lv segment count n (leg ∷ legs) = (
  (refl, refl, omega arith),
  each_weaker (λ run. (run.lv ≡ lv) × (run.segment ≡ segment) × (n + 1 ≤ run.leg))
      (λ run. (run.lv ≡ lv) × (run.segment ≡ segment) × (n ≤ run.leg))
      (λ run is. (is.0, is.1, (let more = is.2 in omega (arith, more)))) (runs_of_legs lv segment count (n + 1) legs)
      (legs_from lv segment count (n + 1) legs),
)

segments_from : (lv n : ℕ) (segments : List Segment)
    → Each (λ run. (run.lv ≡ lv) × (n ≤ run.segment)) (runs_of_segments lv n segments)
segments_from lv n [] = tt
segments_from lv n (segment ∷ segments) =
    let share : ℕ = leg_share segment.count segment.kind in
    join_all (λ run. (run.lv ≡ lv) × (n ≤ run.segment)) (runs_of_legs lv n share 0 (legs_of segment.kind))
    (runs_of_segments lv (n + 1) segments)
    (each_weaker (λ run. (run.lv ≡ lv) × (run.segment ≡ n) × (0 ≤ run.leg)) (λ run. (run.lv ≡ lv) × (n ≤ run.segment))
    (λ run is. (is.0, (let same = is.1 in omega (arith, same)))) (runs_of_legs lv n share 0 (legs_of segment.kind))
    (legs_from lv n share 0 (legs_of segment.kind)))
    (each_weaker (λ run. (run.lv ≡ lv) × (n + 1 ≤ run.segment)) (λ run. (run.lv ≡ lv) × (n ≤ run.segment))
    (λ run is. (is.0, (let more = is.1 in omega (arith, more)))) (runs_of_segments lv (n + 1) segments) (segments_from lv (n + 1) segments))

volumes_from : (n : ℕ) (rows : List (List ℕ × Lv)) → Each (λ run. n ≤ run.lv) (runs_of_volumes n rows)
volumes_from n [] = tt
volumes_from n (row ∷ rows) =
    join_all (λ run. n ≤ run.lv) (runs_of_segments n 0 row.1.segments) (runs_of_volumes (n + 1) rows)
    (each_weaker (λ run. (run.lv ≡ n) × (0 ≤ run.segment)) (λ run. n ≤ run.lv) (λ run is. (let same = is.0 in omega (arith, same)))
    (runs_of_segments n 0 row.1.segments) (segments_from n 0 row.1.segments))
    (each_weaker (λ run. n + 1 ≤ run.lv) (λ run. n ≤ run.lv) (λ run is. omega (arith, is)) (runs_of_volumes (n + 1) rows)
    (volumes_from (n + 1) rows))

-- runs that differ, behind others
abbrev Differ : LegRun → LegRun → Type 0
Differ a b = a ≢ b

module _ (P Q : LegRun → Type 0) (apart : (a b : LegRun) → P a → Q b → Differ a b) where
  differ_both : (xs ys : List LegRun) → AllPairs Differ xs → Each P xs → AllPairs Differ ys → Each Q ys → AllPairs Differ (xs ++ ys)
  differ_both xs ys first front second back =
      pairs_both Differ xs ys first second (λ i d inside j e within.
      apart (get_or xs i d) (get_or ys j e) (All-from_recursion P xs front i d inside) (All-from_recursion Q ys back j e within))

legs_differ : (lv segment count n : ℕ) (legs : List Leg) → AllPairs Differ (runs_of_legs lv segment count n legs)
legs_differ lv segment count n [] = λ i j d before within. absurd (omega (arith, before, within))
legs_differ lv segment count n (leg ∷ legs) =
    let run : LegRun = record { lv = lv; segment = segment; leg = n; on = leg.on; first = leg.first; count = count } in
    AllPairs-cons Differ run (runs_of_legs lv segment count (n + 1) legs)
    (All-from_recursion (Differ run) (runs_of_legs lv segment count (n + 1) legs)
    (each_weaker (λ b. (b.lv ≡ lv) × (b.segment ≡ segment) × (n + 1 ≤ b.leg)) (Differ run)
    (λ b is same. (let more = is.2 in let e : n ≡ b.leg = ap (λ (r : LegRun). r.leg) same in absurd (omega (arith, more, e))))
    (runs_of_legs lv segment count (n + 1) legs) (legs_from lv segment count (n + 1) legs)))
    (legs_differ lv segment count (n + 1) legs)

segments_differ : (lv n : ℕ) (segments : List Segment) → AllPairs Differ (runs_of_segments lv n segments)
segments_differ lv n [] = λ i j d before within. absurd (omega (arith, before, within))
segments_differ lv n (segment ∷ segments) =
    let share : ℕ = leg_share segment.count segment.kind in
    differ_both (λ run. (run.lv ≡ lv) × (run.segment ≡ n) × (0 ≤ run.leg)) (λ run. (run.lv ≡ lv) × (n + 1 ≤ run.segment))
    (λ a b is later same. (let e = is.1 in let more = later.1 in let f : a.segment ≡ b.segment = ap (λ (r : LegRun). r.segment) same in
    absurd (omega (arith, e, more, f))))
    (runs_of_legs lv n share 0 (legs_of segment.kind)) (runs_of_segments lv (n + 1) segments)
    (legs_differ lv n share 0 (legs_of segment.kind)) (legs_from lv n share 0 (legs_of segment.kind))
    (segments_differ lv (n + 1) segments) (segments_from lv (n + 1) segments)

volumes_differ : (n : ℕ) (rows : List (List ℕ × Lv)) → AllPairs Differ (runs_of_volumes n rows)
volumes_differ n [] = λ i j d before within. absurd (omega (arith, before, within))
volumes_differ n (row ∷ rows) =
    differ_both (λ run. (run.lv ≡ n) × (0 ≤ run.segment)) (λ run. n + 1 ≤ run.lv)
    (λ a b is later same. (let e = is.0 in let f : a.lv ≡ b.lv = ap (λ (r : LegRun). r.lv) same in absurd (omega (arith, e, later, f))))
    (runs_of_segments n 0 row.1.segments) (runs_of_volumes (n + 1) rows) (segments_differ n 0 row.1.segments)
    (segments_from n 0 row.1.segments) (volumes_differ (n + 1) rows) (volumes_from (n + 1) rows)

pub runs_differ : (group : Group) → AllPairs (λ (a b : LegRun). a ≢ b) (runs_of group)
unfolding runs_of
runs_differ group = volumes_differ 0 group.lvs

-- ---- one leg has a place

pub run_same : (group : Group) (a b : LegRun) → Contains (runs_of group) a → Contains (runs_of group) b → a.lv ≡ b.lv
    → a.segment ≡ b.segment → a.leg ≡ b.leg → a ≡ b
run_same group a b in_a in_b lv segment leg =
    let is : IsRunOf group.lvs 0 a = run_is group a in_a in
    let also : IsRunOf group.lvs 0 b = run_is group b in_b in
    let nth : is.nth ≡ also.nth = omega (arith, is.lv_is, also.lv_is, lv) in
    let row : is.volume ≡ also.volume =
    same_Some is.volume also.volume (sym is.is_volume ∙ ap (slice_get group.lvs) nth ∙ also.is_volume) in
    let part : is.segment ≡ also.segment =
    same_Some is.segment also.segment
    (sym is.is_segment ∙ (λ i. slice_get (row i).1.segments (segment i)) ∙ also.is_segment)
    in
    let at : is.leg ≡ also.leg =
    same_Some is.leg also.leg (sym is.is_leg ∙ (λ i. slice_get (legs_of (part i).kind) (leg i)) ∙ also.is_leg) in
    let on_is : a.on ≡ b.on = is.on_is ∙ ap (λ (l : Leg). l.on) at ∙ sym also.on_is in
    let first : a.first ≡ b.first = is.first_is ∙ ap (λ (l : Leg). l.first) at ∙ sym also.first_is in
    let count : a.count ≡ b.count =
    is.count_is ∙ ap (λ (s : Segment). leg_share s.count s.kind) part ∙ sym also.count_is in
    λ i. record { lv = lv i; segment = segment i; leg = leg i; on = on_is i; first = first i; count = count i }
