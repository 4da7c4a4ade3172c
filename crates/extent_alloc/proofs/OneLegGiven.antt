-- One leg has as few parts as the free runs allow.
use Rattle.std.proofs.Common.{◌≡◌, ℕ, zero, suc, ◌+◌, ◌-◌, ◌<◌, ◌≤◌, ◌⊎◌, ◌&&◌, Bool, true, false, List, [], ◌∷◌, ◌++◌, length, map, inl}
use Rattle.std.proofs.Common.{inr, refl, sym, ap, subst, ◌∙◌, arith, IsTrue, IsPermutation, append-nil, None, nat_lt}
use Rattle.std.specs.Prelude.{All, Contains}
use Rattle.std.specs.List.{AllByRecursion, filter, range_with_len}
use Rattle.std.proofs.lemmas.Bool.{cases_eq, cases_lt, cond-false, cond_both, false≢true, le-ltb, ltb-false}
use Rattle.std.proofs.lemmas.List.Elements.{All-head, All-tail, recursion_from_All}
use Rattle.std.proofs.lemmas.List.Sorted.{Contains-permutation}
use Rattle.std.proofs.lemmas.Option.{slice_get_within}
use Rattle.meta_model.specs.declared.group.Group.{Group}
use Rattle.volume_rules.specs.Rules.{IsAccepted}
use Rattle.volume_rules.proofs.LegRuns.{contains_first, contains_later}
use Rattle.extent_map.specs.declared.extent_run.ExtentRun.{ExtentRun}
use Rattle.extent_alloc.specs.Few.{AreFew}
use Rattle.extent_alloc.specs.Free.{free_at, free_in, free_on, longest, runs_on, total}
use Rattle.extent_alloc.specs.Giving.{IsGiven, IsRequest, LieApart, MayBeGiven, covered, covered_by, extents_in}
use Rattle.extent_alloc.specs.Laying.{laid_on, whole_part}
use Rattle.extent_alloc.specs.Refusals.{one_leg_refusal}
use Rattle.extent_alloc.specs.Taking.{IsTaken}
use Rattle.extent_alloc.specs.Usable.{is_usable, usable_pvs}
use Rattle.extent_alloc.specs.declared.part.Part.{Part}
use Rattle.extent_alloc.specs.declared.part.PartRun.{PartRun}
use Rattle.extent_alloc.specs.declared.part.PvRun.{PvRun}
use Rattle.extent_alloc.specs.declared.request.Request.{Request}
use Rattle.extent_alloc.proofs.Fewest.{LiesInOne, LiesWithin, fewest, needed, needed_more, needed_none, needed_one}
use Rattle.extent_alloc.proofs.FreeLists.{free_begin, free_lies}
use Rattle.extent_alloc.proofs.GivenParts.{given_parts}
use Rattle.extent_alloc.proofs.LaidParts.{AgreeFrom, Some, extents_cons, laid_agrees, laid_sum, pieces_count, spot, total_cons}
use Rattle.extent_alloc.proofs.LongestFirst.{descends}
use Rattle.list_laws.proofs.Pairs.{all_weaker, pairs_from}
use Rattle.extent_alloc.proofs.Taken.{AreFine, fine_leg, fine_small, fine_some, moved_fine, taken_enough, taken_fine, usable_fine}
use Rattle.extent_alloc.proofs.UnusedRuns.{within_one}

-- one part without a leg has them all
pub whole_sum : (extents : ℕ) → extents_in (whole_part extents) ≡ extents
whole_sum extents = omega arith

-- what one leg covers is laid on what it takes
pub one_agrees : (extents : ℕ) (taken : List PvRun) → 1 ≤ extents → extents ≤ total taken → Some taken
    → AgreeFrom (taken ∷ []) 0 (laid_on (whole_part extents) taken)
one_agrees extents taken one enough some =
    laid_agrees [] taken 0 (whole_part extents) taken (one, (λ n lt. refl), tt) (omega (arith, whole_sum extents, enough)) some
    (λ n lt. ap (spot taken) (let e : 0 + n ≡ n = omega arith in e))

one_count : (extents : ℕ) (taken : List PvRun) → extents ≤ total taken → length (laid_on (whole_part extents) taken) ≡ needed extents taken
one_count extents taken enough =
    let part : Part = record { extents = extents; runs = [] } in
    ap length (append-nil _) ∙ pieces_count part 0 extents taken enough

-- a run that is long enough is all that is needed
pub long_enough : (extents : ℕ) (run : PvRun) (runs : List PvRun) → 1 ≤ extents → extents ≤ run.count → needed extents (run ∷ runs) ≡ 1
long_enough extents run runs one enough =
    elim (cases_lt extents run.count) [
      | inl less ↦ needed_one extents run runs one less
      | inr more ↦
          needed_more extents run runs one more
          ∙ ap (λ n. suc (needed n runs)) (let e : extents - run.count ≡ 0 = omega (arith, enough) in e)
          ∙ ap suc (needed_none runs)
    ]

-- where one is, the longest isn't shorter
pub shorter_all : (extents : ℕ) (runs : List PvRun) → 1 ≤ extents → All (λ (run : PvRun). run.count < extents) runs → longest runs < extents
shorter_all extents [] one all = one
shorter_all extents (run ∷ runs) one all =
    let rest : longest runs < extents = shorter_all extents runs one (All-tail (λ (r : PvRun). r.count < extents) run runs all) in
    let here : run.count < extents = All-head (λ (r : PvRun). r.count < extents) run runs all in
    omega (arith, rest, here)

one_part : (extents : ℕ) (runs taken : List PvRun) → 1 ≤ extents → extents ≤ longest runs → IsTaken extents runs taken
    → needed extents taken ≡ 1
one_part extents runs taken one enough (inl single) = ap (needed extents) single.3 ∙ long_enough extents single.0 [] one single.2
one_part extents runs taken one enough (inr all) = absurd (omega (arith, enough, shorter_all extents runs one all.0))

-- a piece of free extents lies within a free run
lies_on : (pv : ℕ) (runs : List ExtentRun) (run : ExtentRun) (piece : PvRun) → Contains runs run → piece.pv ≡ pv → run.first ≤ piece.first
    → piece.first + piece.count ≤ run.first + run.count → LiesInOne (runs_on pv runs) piece
lies_on pv [] run piece (k, lt, is) same low high = absurd (omega (arith, lt))
lies_on pv (r ∷ runs) run piece (zero, lt, is) same low high =
    inl (
      same,
      subst (λ (x : ExtentRun). x.first ≤ piece.first) (sym is) low,
      subst (λ (x : ExtentRun). piece.first + piece.count ≤ x.first + x.count) (sym is) high,
    )
lies_on pv (r ∷ runs) run piece (suc k, lt, is) same low high = inr (lies_on pv runs run piece (k, omega (arith, lt), is) same low high)

lies_left : (a b : List PvRun) (piece : PvRun) → LiesInOne a piece → LiesInOne (a ++ b) piece
lies_left [] b piece lies = absurd lies
lies_left (run ∷ a) b piece (inl here) = inl here
lies_left (run ∷ a) b piece (inr later) = inr (lies_left a b piece later)

lies_right : (a b : List PvRun) (piece : PvRun) → LiesInOne b piece → LiesInOne (a ++ b) piece
lies_right [] b piece lies = lies
lies_right (run ∷ a) b piece lies = inr (lies_right a b piece lies)

-- one of the volumes
abbrev IsOne : ℕ → List ℕ → Type 0
IsOne pv [] = ⊥
IsOne pv (n ∷ more) = (pv ≡ n) ⊎ IsOne pv more

lies_there : (group : Group) (pvs : List ℕ) (pv : ℕ) (piece : PvRun) → IsOne pv pvs → LiesInOne (free_at group pv) piece
    → LiesInOne (free_on group pvs) piece
lies_there group [] pv piece one lies = absurd one
lies_there group (n ∷ more) pv piece (inl same) lies =
    lies_left (free_at group n) (free_on group more) piece (subst (λ k. LiesInOne (free_at group k) piece) same lies)
lies_there group (n ∷ more) pv piece (inr later) lies =
    lies_right (free_at group n) (free_on group more) piece (lies_there group more pv piece later lies)

usable_one : (group : Group) (want : Request) (pv from count : ℕ) → from ≤ pv → pv < from + count → is_usable group want pv ≡ true
    → IsOne pv (filter (is_usable group want) (range_with_len from count))
usable_one group want pv from zero low high may = absurd (omega (arith, low, high))
usable_one group want pv from (suc count) low high may =
    elim (cases_eq pv from) [
      | inl same ↦ cond_both (is_usable group want from) _ _ (IsOne pv) (λ is. inl same)
          (λ isnt. absurd (false≢true (sym isnt ∙ ap (is_usable group want) (sym same) ∙ may)))
      | inr other ↦
          let later = usable_one group want pv (from + 1) count (omega (arith, low, other)) (omega (arith, high)) may in
          cond_both (is_usable group want from) _ _ (IsOne pv) (λ is. inr later) (λ isnt. later)
    ]

may_lie : (group : Group) (want : Request) (piece : PvRun) → 1 ≤ piece.count → MayBeGiven group want piece
    → LiesInOne (free_on group (usable_pvs group want)) piece
may_lie group want piece some may =
    let free = may.1 piece.first (omega arith) (omega (arith, some)) in
    let found =
    within_one 0 piece.first piece.count (free_in group piece.pv) (free_begin group piece.pv) some
    (λ extent low high. free_lies group piece.pv extent (may.1 extent low high)) in
    lies_there group (usable_pvs group want) piece.pv piece
    (usable_one group want piece.pv 0 (length group.pvs) (omega arith)
    (let lt = slice_get_within group.pvs piece.pv free.0.0 free.0.1 in omega (arith, lt)) may.0)
    (lies_on piece.pv (free_in group piece.pv) found.0 piece found.1 refl found.2 found.3)

-- in whatever order the runs stand
in_one : (runs : List PvRun) (piece : PvRun) → LiesInOne runs piece → (run : PvRun) × Contains runs run × LiesWithin run piece
in_one [] piece lies = absurd lies
in_one (run ∷ runs) piece (inl here) = (run, contains_first run runs, here)
in_one (run ∷ runs) piece (inr later) = let rest = in_one runs piece later in (rest.0, contains_later run rest.0 runs rest.1, rest.2)

one_in : (runs : List PvRun) (run piece : PvRun) → Contains runs run → LiesWithin run piece → LiesInOne runs piece
one_in [] run piece (k, lt, is) within = absurd (omega (arith, lt))
one_in (r ∷ runs) run piece (zero, lt, is) within = inl (subst (λ (x : PvRun). LiesWithin x piece) (sym is) within)
one_in (r ∷ runs) run piece (suc k, lt, is) within = inr (one_in runs run piece (k, omega (arith, lt), is) within)

moved_lies : (before after : List PvRun) (piece : PvRun) → IsPermutation before after → LiesInOne before piece → LiesInOne after piece
moved_lies before after piece moved lies =
    let one = in_one before piece lies in one_in after one.0 piece (Contains-permutation before after one.0 moved one.1) one.2

-- what other parts of one leg cover
single : (runs : List PartRun) → length runs ≡ 1 → (run : PartRun) × (runs ≡ run ∷ [])
single [] one = absurd (omega (arith, one))
single (run ∷ []) one = (run, refl)
single (run ∷ next ∷ runs) one = absurd (omega (arith, one))

-- as many runs as parts, with as many extents, each with one
abbrev CoversAs : List PvRun → List Part → Type 0
CoversAs runs parts = (length runs ≡ length parts) × (total runs ≡ extents_in parts) × AllByRecursion (λ (run : PvRun). 1 ≤ run.count) runs

cover_count : (legs : ℕ) (parts : List Part) → legs ≡ 1
    → AllByRecursion (λ (part : Part). (1 ≤ part.extents) × (length part.runs ≡ legs)) parts → CoversAs (covered parts) parts
cover_count legs [] one all = (refl, refl, tt)
cover_count legs (part ∷ parts) one all =
    let rest = cover_count legs parts one all.1 in
    let run = single part.runs (all.0.1 ∙ one) in
    let first : PvRun = record { pv = run.0.pv; first = run.0.first; count = part.extents } in
    let here : covered_by part ≡ first ∷ [] =
    ap (map (λ (r : PartRun). let p : PvRun = record { pv = r.pv; first = r.first; count = part.extents } in p)) run.1 in
    subst (λ some. CoversAs (some ++ covered parts) (part ∷ parts)) (sym here)
    (ap suc rest.0, omega (arith, rest.1, total_cons first (covered parts), extents_cons part parts), (all.0.0, rest.2))

-- each of them lies within a free run
all_lie : (group : Group) (want : Request) (runs : List PvRun) → AllByRecursion (λ (run : PvRun). 1 ≤ run.count) runs
    → AllByRecursion (MayBeGiven group want) runs → AllByRecursion (LiesInOne (free_on group (usable_pvs group want))) runs
all_lie group want [] some may = tt
all_lie group want (run ∷ runs) some may = (may_lie group want run some.0 may.0, all_lie group want runs some.1 may.1)

-- so there are no fewer
none_fewer : (group : Group) (want : Request) (taken : List PvRun) (others : List Part) → IsAccepted group → want.legs ≡ 1
    → 1 ≤ want.extents → IsTaken want.extents (free_on group (usable_pvs group want)) taken → IsGiven group want others
    → needed want.extents taken ≤ length others
none_fewer group want taken others accepted legs one (inl long) given =
    let some : 1 ≤ length others = at_least_one others (omega (arith, given.enough, one)) in
    omega (arith, some, ap (needed want.extents) long.3, long_enough want.extents long.0 [] one long.2)
  where
    at_least_one : (parts : List Part) → 1 ≤ extents_in parts → 1 ≤ length parts
    at_least_one [] enough = absurd (omega (arith, enough))
    at_least_one (part ∷ parts) enough = omega arith
none_fewer group want taken others accepted legs one (inr all) given =
    let runs : List PvRun = free_on group (usable_pvs group want) in
    let fine : AreFine group want taken = moved_fine group want runs taken all.1.0 (usable_fine group want accepted) in
    let covers =
    cover_count want.legs others legs (recursion_from_All (λ (part : Part). (1 ≤ part.extents) × (length part.runs ≡ want.legs)) others
    given.legs) in
    let lie = all_weaker (LiesInOne runs) (LiesInOne taken) (λ piece lies. moved_lies runs taken piece all.1.0 lies) (covered others)
    (all_lie group want (covered others) covers.2 (recursion_from_All (MayBeGiven group want) (covered others) given.free)) in
    let few =
    fewest taken (covered others) (descends taken (fine_small group want taken fine) all.1.1) (fine_some group want taken fine)
    (pairs_from LieApart (covered others) given.apart) lie in
    omega (arith, few, covers.0, ap (λ n. needed n taken) (covers.1 ∙ given.enough))

-- one leg on what it takes is given, in as few parts as may be
pub one_leg_given : (group : Group) (want : Request) (taken : List PvRun) → IsAccepted group → IsRequest want → want.legs ≡ 1
    → want.extents ≤ total (free_on group (usable_pvs group want))
    → (IsTrue want.contiguous → want.extents ≤ longest (free_on group (usable_pvs group want)))
    → IsTaken want.extents (free_on group (usable_pvs group want)) taken
    → IsGiven group want (laid_on (whole_part want.extents) taken) × AreFew group want (laid_on (whole_part want.extents) taken)
one_leg_given group want taken accepted request legs enough long is =
    let runs : List PvRun = free_on group (usable_pvs group want) in
    let fine : AreFine group want taken = taken_fine group want want.extents runs taken is (usable_fine group want accepted) in
    let all : want.extents ≤ total taken = taken_enough want.extents runs taken is enough in
    let count = one_count want.extents taken all in
    let whole : extents_in (whole_part want.extents) ≡ want.extents = whole_sum want.extents in (
      given_parts group want (taken ∷ []) (laid_on (whole_part want.extents) taken) (fine_leg group want want.extents taken fine all, tt)
          (tt, tt) (sym legs)
          (one_agrees want.extents taken request.extents all (fine_some group want taken fine))
          (laid_sum (whole_part want.extents) taken (omega (arith, whole, all)) ∙ whole)
          (λ contiguous. count ∙ one_part want.extents runs taken request.extents (long contiguous) is)
          (λ more. absurd (omega (arith, more, legs))),
      record {
        one_leg = λ one others given. omega (arith, count, none_fewer group want taken others accepted legs request.extents is given);
        more_legs = λ more. absurd (omega (arith, more, legs));
      },
    )

-- a run that is long enough, where one leg has to lie in one and isn't refused
pub long_where : (contiguous : Bool) (long extents : ℕ) → IsTrue contiguous → (contiguous && nat_lt long extents) ≡ false → extents ≤ long
long_where true long extents is tested = ltb-false long extents tested
long_where false long extents is tested = absurd (false≢true is)

-- why one leg isn't refused
pub not_refused : (want : Request) (runs : List PvRun) → want.extents ≤ total runs
    → (want.contiguous && nat_lt (longest runs) want.extents) ≡ false → one_leg_refusal want runs ≡ None
not_refused want runs enough long =
    cond-false (nat_lt (total runs) want.extents) _ _ (le-ltb (total runs) want.extents enough)
    ∙ cond-false (want.contiguous && nat_lt (longest runs) want.extents) _ _ long
