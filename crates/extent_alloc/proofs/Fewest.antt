-- So many extents lie in no fewer pieces than the longest runs take.
use Rattle.std.proofs.Common.{◌≡◌, ℕ, zero, suc, ◌+◌, ◌-◌, ◌<◌, ◌≤◌, ◌⊎◌, Bool, true, false, not, ◌&&◌, List, [], ◌∷◌, length, cond}
use Rattle.std.proofs.Common.{if◌then◌else◌, inl, inr, refl, sym, ap, ◌∙◌, arith, nat_eq, nat_le, nat_lt, ⊎_elim}
use Rattle.std.specs.List.{AllByRecursion, filter}
use Rattle.std.proofs.lemmas.Bool.{and_from, and_parts, cases_Bool, cases_lt, cond-false, cond-true, cond_both, eqb-true, eq-eqb}
use Rattle.std.proofs.lemmas.Bool.{false≢true, le-leb, leb-true, lt-ltb, le-ltb, ltb-true, ne_eqb, not_from_true}
use Rattle.std.proofs.lemmas.List.Sums.{sum_by-cons}
use Rattle.extent_alloc.specs.Free.{total}
use Rattle.extent_alloc.specs.Giving.{LieApart}
use Rattle.extent_alloc.specs.declared.part.PvRun.{PvRun}
use Rattle.list_laws.proofs.Pairs.{Pairs, all_weaker, pairs_filter}

-- how many of these runs, one after another, so many extents take; what they have no room for counts too
abbrev pub needed : ℕ → List PvRun → ℕ
needed left [] = left
needed left (run ∷ runs) = if nat_eq left 0 then 0 else if nat_lt left run.count then 1 else suc (needed (left - run.count) runs)

pub needed_none : (runs : List PvRun) → needed 0 runs ≡ 0
needed_none [] = refl
needed_none (run ∷ runs) = refl

-- what is taken in each case
pub needed_one : (left : ℕ) (run : PvRun) (runs : List PvRun) → 1 ≤ left → left < run.count → needed left (run ∷ runs) ≡ 1
needed_one left run runs some less =
    cond-false (nat_eq left 0) _ _ (ne_eqb left 0 (λ none. omega (arith, none, some)))
    ∙ cond-true (nat_lt left run.count) _ _ (lt-ltb left run.count less)

pub needed_more : (left : ℕ) (run : PvRun) (runs : List PvRun) → 1 ≤ left → run.count ≤ left
    → needed left (run ∷ runs) ≡ suc (needed (left - run.count) runs)
needed_more left run runs some more =
    cond-false (nat_eq left 0) _ _ (ne_eqb left 0 (λ none. omega (arith, none, some)))
    ∙ cond-false (nat_lt left run.count) _ _ (le-ltb left run.count more)

-- fewer extents take no more runs
needed_grows : (less more : ℕ) (runs : List PvRun) → less ≤ more → needed less runs ≤ needed more runs
needed_grows less more [] le = le
needed_grows zero more (run ∷ runs) le = omega (arith, needed_none (run ∷ runs))
needed_grows (suc n) more (run ∷ runs) le =
    elim (cases_lt (suc n) run.count) [
      | inl short ↦
          let one = needed_one (suc n) run runs (omega arith) short in
          elim (cases_lt more run.count) [
            | inl short' ↦ omega (arith, one, needed_one more run runs (omega (arith, le)) short')
            | inr long ↦ omega (arith, one, needed_more more run runs (omega (arith, le)) long)
          ]
      | inr long ↦
          let rest = needed_grows (suc n - run.count) (more - run.count) runs (omega (arith, le, long)) in
          omega (
            arith,
            rest,
            needed_more (suc n) run runs (omega arith) long,
            needed_more more run runs (omega (arith, le)) (omega (arith, le, long)),
          )
    ]

some_needed : (left : ℕ) (runs : List PvRun) → 1 ≤ left → 1 ≤ needed left runs
some_needed left [] some = some
some_needed left (run ∷ runs) some =
    elim (cases_lt left run.count) [
      | inl short ↦ omega (arith, needed_one left run runs some short)
      | inr long ↦ omega (arith, needed_more left run runs some long)
    ]

-- a run that is no shorter than these in front of them never makes more of them needed
front_helps : (left : ℕ) (run : PvRun) (runs : List PvRun) → 1 ≤ run.count → AllByRecursion (λ (r : PvRun). r.count ≤ run.count) runs
    → needed left (run ∷ runs) ≤ needed left runs
front_helps zero run runs some longest = omega (arith, needed_none (run ∷ runs))
front_helps (suc n) run [] some longest =
    elim (cases_lt (suc n) run.count) [
      | inl short ↦ omega (arith, needed_one (suc n) run [] (omega arith) short)
      | inr long ↦ omega (arith, needed_more (suc n) run [] (omega arith) long, some)
    ]
front_helps (suc n) run (next ∷ runs) some longest =
    elim (cases_lt (suc n) run.count) [
      | inl short ↦ omega (arith, needed_one (suc n) run (next ∷ runs) (omega arith) short, some_needed (suc n) (next ∷ runs) (omega arith))
      | inr long ↦
          let here = needed_more (suc n) run (next ∷ runs) (omega arith) long in
          let there = needed_more (suc n) next runs (omega arith) (omega (arith, longest.0, long)) in
          let left : ℕ = suc n - run.count in
          let rest : needed left (next ∷ runs) ≤ needed (suc n - next.count) runs =
          elim (cases_lt left 1) [
            | inl none ↦ omega (
              arith,
              ap (λ k. needed k (next ∷ runs)) (let e : left ≡ 0 = omega (arith, none) in e),
              needed_none (next ∷ runs),
            )
            | inr more ↦
                elim (cases_lt left next.count) [
                  | inl short ↦ omega (
                    arith,
                    needed_one left next runs more short,
                    some_needed (suc n - next.count) runs (omega (arith, more, longest.0, long)),
                  )
                  | inr on ↦
                      omega (
                        arith,
                        needed_more left next runs more on,
                        front_helps (suc n - next.count) run runs some longest.1,
                        needed_more (suc n - next.count) run runs (omega (arith, more, longest.0, long))
                            (omega (arith, on, longest.0, long)),
                        ap (λ k. needed k runs) (let e : left - next.count
                            ≡ suc n - next.count - run.count = omega (arith, on, long, longest.0) in e),
                      )
                ]
          ] in
          omega (arith, here, there, rest)
    ]

needed_step : (left : ℕ) (run : PvRun) (runs : List PvRun) → needed left (run ∷ runs) ≤ suc (needed (left - run.count) runs)
needed_step left run runs =
    elim (cases_lt left 1) [
      | inl none ↦ omega (arith, ap (λ k. needed k (run ∷ runs)) (let e : left ≡ 0 = omega (arith, none) in e), needed_none (run ∷ runs))
      | inr some ↦
          elim (cases_lt left run.count) [
            | inl short ↦ omega (arith, needed_one left run runs some short)
            | inr long ↦ omega (arith, needed_more left run runs some long)
          ]
    ]

-- a piece lies within a run
abbrev pub LiesWithin : PvRun → PvRun → Type 0
LiesWithin run piece = (piece.pv ≡ run.pv) × (run.first ≤ piece.first) × (piece.first + piece.count ≤ run.first + run.count)

-- or within one of several
abbrev pub LiesInOne : List PvRun → PvRun → Type 0
LiesInOne [] piece = ⊥
LiesInOne (run ∷ runs) piece = LiesWithin run piece ⊎ LiesInOne runs piece

-- how many of a run's extents lie among so many from one on
has : ℕ → PvRun → Bool
has extent run = nat_le run.first extent && nat_lt extent (run.first + run.count)

has_from : (extent : ℕ) (run : PvRun) → run.first ≤ extent → extent < run.first + run.count → has extent run ≡ true
unfolding has
has_from extent run low high = and_from _ _ (le-leb run.first extent low) (lt-ltb extent (run.first + run.count) high)

has_true : (extent : ℕ) (run : PvRun) → has extent run ≡ true → (run.first ≤ extent) × (extent < run.first + run.count)
unfolding has
has_true extent run is =
    let both = and_parts (nat_le run.first extent) (nat_lt extent (run.first + run.count))
    is in (leb-true run.first extent both.0, ltb-true extent (run.first + run.count) both.1)

abbrev one_if : Bool → ℕ
one_if b = cond b 1 0

hits : ℕ → ℕ → PvRun → ℕ
hits at zero run = 0
hits at (suc count) run = hits at count run + one_if (has (at + count) run)

hits_enough : (at count some : ℕ) (run : PvRun) → at ≤ run.first → run.first + some ≤ at + count → some ≤ run.count
    → some ≤ hits at count run
unfolding hits
hits_enough at zero some run low high fits = omega (arith, low, high)
hits_enough at (suc count) zero run low high fits = omega arith
hits_enough at (suc count) (suc some) run low high fits =
    elim (cases_lt (at + count) (run.first + suc some)) [
      | inl last ↦
          omega (
            arith,
            hits_enough at count some run low (omega (arith, high)) (omega (arith, fits)),
            ap one_if (has_from (at + count) run (omega (arith, high, last)) (omega (arith, high, last, fits))),
          )
      | inr before ↦ omega (arith, hits_enough at count (suc some) run low before fits)
    ]

-- how many runs have the extent, and how many of their extents lie there
some_at : ℕ → List PvRun → ℕ
some_at extent [] = 0
some_at extent (run ∷ runs) = one_if (has extent run) + some_at extent runs

hits_of : ℕ → ℕ → List PvRun → ℕ
hits_of at zero runs = 0
hits_of at (suc count) runs = hits_of at count runs + some_at (at + count) runs

hits_of_cons : (at count : ℕ) (run : PvRun) (runs : List PvRun) → hits_of at count (run ∷ runs) ≡ hits at count run + hits_of at count runs
unfolding hits hits_of some_at
hits_of_cons at zero run runs = refl
hits_of_cons at (suc count) run runs = let rest = hits_of_cons at count run runs in omega (arith, rest)

none_at : (extent : ℕ) (run : PvRun) (runs : List PvRun) → has extent run ≡ true → AllByRecursion (LieApart run) runs
    → AllByRecursion (λ (r : PvRun). r.pv ≡ run.pv) runs → some_at extent runs ≡ 0
unfolding some_at
none_at extent run [] is apart same = refl
none_at extent run (next ∷ runs) is apart same =
    ⊎_elim
    (λ (there : has extent next ≡ true).
    let here = has_true extent run is in
    let both = has_true extent next there in
    absurd (apart.0 run.pv extent (refl, here.0, here.1) (same.0, both.0, both.1)))
    (λ (other : has extent next ≡ false). omega (arith, ap one_if other, none_at extent run runs is apart.1 same.1))
    (cases_Bool (has extent next))

at_most_one : (extent pv : ℕ) (runs : List PvRun) → Pairs LieApart runs → AllByRecursion (λ (r : PvRun). r.pv ≡ pv) runs
    → some_at extent runs ≤ 1
unfolding some_at
at_most_one extent pv [] apart same = omega arith
at_most_one extent pv (run ∷ runs) apart same =
    ⊎_elim
    (λ (here : has extent run ≡ true).
    omega (
      arith,
      ap one_if here,
      none_at extent run runs here apart.0 (all_weaker (λ (r : PvRun). r.pv ≡ pv) (λ (r : PvRun). r.pv ≡ run.pv) (λ r is. is ∙ sym same.0)
          runs same.1),
    ))
    (λ (other : has extent run ≡ false). omega (arith, ap one_if other, at_most_one extent pv runs apart.1 same.1))
    (cases_Bool (has extent run))

hits_few : (at count pv : ℕ) (runs : List PvRun) → Pairs LieApart runs → AllByRecursion (λ (r : PvRun). r.pv ≡ pv) runs
    → hits_of at count runs ≤ count
unfolding hits_of
hits_few at zero pv runs apart same = omega arith
hits_few at (suc count) pv runs apart same =
    omega (arith, hits_few at count pv runs apart same, at_most_one (at + count) pv runs apart same)

hits_all : (run : PvRun) (pieces : List PvRun) → AllByRecursion (LiesWithin run) pieces → total pieces ≤ hits_of run.first run.count pieces
hits_all run [] lie = omega arith
hits_all run (piece ∷ pieces) lie =
    omega (
      arith,
      sum_by-cons (λ (r : PvRun). r.count) piece pieces,
      hits_of_cons run.first run.count piece pieces,
      hits_enough run.first run.count piece.count piece lie.0.1 lie.0.2 (omega arith),
      hits_all run pieces lie.1,
    )

-- pieces that lie apart within a run have no more extents than it has
pub total_within : (run : PvRun) (pieces : List PvRun) → Pairs LieApart pieces → AllByRecursion (LiesWithin run) pieces
    → total pieces ≤ run.count
total_within run pieces apart lie =
    omega (
      arith,
      hits_all run pieces lie,
      hits_few run.first run.count run.pv pieces apart
          (all_weaker (LiesWithin run) (λ (r : PvRun). r.pv ≡ run.pv) (λ r within. within.0) pieces lie),
    )

-- the pieces within a run, and the others
fits : PvRun → PvRun → Bool
fits run piece = nat_eq piece.pv run.pv && (nat_le run.first piece.first && nat_le (piece.first + piece.count) (run.first + run.count))

fits_true : (run piece : PvRun) → fits run piece ≡ true → LiesWithin run piece
unfolding fits
fits_true run piece is =
    let pv =
    and_parts (nat_eq piece.pv run.pv) (nat_le run.first piece.first && nat_le (piece.first + piece.count) (run.first + run.count))
    is in
    let ends = and_parts (nat_le run.first piece.first) (nat_le (piece.first + piece.count) (run.first + run.count)) pv.1 in (
      eqb-true piece.pv run.pv pv.0,
      leb-true run.first piece.first ends.0,
      leb-true (piece.first + piece.count) (run.first + run.count) ends.1,
    )

fits_from : (run piece : PvRun) → LiesWithin run piece → fits run piece ≡ true
unfolding fits
fits_from run piece within =
    and_from _ _ (eq-eqb piece.pv run.pv within.0)
    (and_from _ _ (le-leb run.first piece.first within.1) (le-leb (piece.first + piece.count) (run.first + run.count) within.2))

abbrev inside : PvRun → List PvRun → List PvRun
inside run pieces = filter (fits run) pieces

abbrev outside : PvRun → List PvRun → List PvRun
outside run pieces = filter (λ piece. not (fits run piece)) pieces

split_length : (run : PvRun) (pieces : List PvRun) → length (inside run pieces) + length (outside run pieces) ≡ length pieces
split_length run [] = refl
split_length run (piece ∷ pieces) =
    let rest = split_length run pieces in
    elim (fits run piece) as (λ b. length (cond b (piece ∷ inside run pieces) (inside run pieces))
    + length (cond (not b) (piece ∷ outside run pieces) (outside run pieces)) ≡ suc (length pieces)) [
      | true ↦ omega (arith, rest)
      | false ↦ omega (arith, rest)
    ]

split_total : (run : PvRun) (pieces : List PvRun) → total (inside run pieces) + total (outside run pieces) ≡ total pieces
split_total run [] = refl
split_total run (piece ∷ pieces) =
    let rest = split_total run pieces in
    let all = sum_by-cons (λ (r : PvRun). r.count) piece pieces in
    elim (fits run piece) as (λ b. total (cond b (piece ∷ inside run pieces) (inside run pieces))
    + total (cond (not b) (piece ∷ outside run pieces) (outside run pieces)) ≡ total (piece ∷ pieces)) [
      | true ↦ omega (arith, rest, all, sum_by-cons (λ (r : PvRun). r.count) piece (inside run pieces))
      | false ↦ omega (arith, rest, all, sum_by-cons (λ (r : PvRun). r.count) piece (outside run pieces))
    ]

inside_lie : (run : PvRun) (pieces : List PvRun) → AllByRecursion (LiesWithin run) (inside run pieces)
inside_lie run [] = tt
inside_lie run (piece ∷ pieces) =
    cond_both (fits run piece) _ _ (AllByRecursion (LiesWithin run)) (λ is. (fits_true run piece is, inside_lie run pieces))
    (λ is. inside_lie run pieces)

outside_lie : (run : PvRun) (runs pieces : List PvRun) → AllByRecursion (LiesInOne (run ∷ runs)) pieces
    → AllByRecursion (LiesInOne runs) (outside run pieces)
outside_lie run runs [] lie = tt
outside_lie run runs (piece ∷ pieces) lie =
    cond_both (not (fits run piece)) _ _ (AllByRecursion (LiesInOne runs))
    (λ is. (
      ⊎_elim (λ (here : LiesWithin run piece). absurd
          (false≢true (sym (not_from_true (fits run piece) (fits_from run piece here)) ∙ is))) (λ (later : LiesInOne runs piece). later)
          lie.0,
      outside_lie run runs pieces lie.1,
    ))
    (λ is. outside_lie run runs pieces lie.1)

none_total : (runs : List PvRun) → length runs ≡ 0 → total runs ≡ 0
none_total [] none = refl
none_total (run ∷ runs) none = absurd (omega (arith, none))

-- each run is no longer than those before it
abbrev pub Descending : List PvRun → Type 0
Descending [] = Unit {0}
Descending (run ∷ runs) = AllByRecursion (λ (r : PvRun). r.count ≤ run.count) runs × Descending runs

-- pieces that lie apart within the runs are at least as many as the runs that as many extents take
pub fewest : (runs pieces : List PvRun) → Descending runs → AllByRecursion (λ (r : PvRun). 1 ≤ r.count) runs → Pairs LieApart pieces
    → AllByRecursion (LiesInOne runs) pieces → needed (total pieces) runs ≤ length pieces
fewest [] [] order some apart lie = omega arith
fewest [] (piece ∷ pieces) order some apart lie = absurd lie.0
fewest (run ∷ runs) pieces order some apart lie =
    let lengths = split_length run pieces in
    let totals = split_total run pieces in
    let within = total_within run (inside run pieces) (pairs_filter LieApart (fits run) pieces apart) (inside_lie run pieces) in
    let rest =
    fewest runs (outside run pieces) order.1 some.1 (pairs_filter LieApart (λ piece. not (fits run piece)) pieces apart)
    (outside_lie run runs pieces lie) in
    elim (cases_lt (length (inside run pieces)) 1) [
      | inl none ↦
          let all : total (outside run pieces) ≡ total pieces =
          omega (arith, totals, none_total (inside run pieces) (omega (arith, none))) in
          omega (arith, lengths, rest, ap (λ n. needed n runs) all, front_helps (total pieces) run runs some.0 order.0)
      | inr one ↦
          omega (
            arith,
            lengths,
            rest,
            needed_step (total pieces) run runs,
            needed_grows (total pieces - run.count) (total (outside run pieces)) runs (omega (arith, totals, within)),
            one,
          )
    ]
