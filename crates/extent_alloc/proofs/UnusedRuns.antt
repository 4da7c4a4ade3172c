-- The runs of the extents that aren't used, extent by extent; and that longest runs of the same extents are one list.
use Rattle.std.proofs.Common.{◌≡◌, ℕ, zero, suc, ◌+◌, ◌<◌, ◌≤◌, ◌⊎◌, Bool, false, List, [], ◌∷◌, inl, inr, refl, sym, ap, ap₂, ◌∙◌, arith}
use Rattle.std.proofs.Common.{nat_eq, sum_by, ⊎_elim}
use Rattle.std.specs.Prelude.{Contains}
use Rattle.std.proofs.lemmas.Bool.{cases_eq, cases_lt, cond_both, eqb-true, eqb-false, false≢true}
use Rattle.std.proofs.lemmas.List.Sums.{sum_by-cons}
use Rattle.volume_rules.proofs.LegRuns.{contains_first, contains_later}
use Rattle.extent_map.specs.declared.extent_run.ExtentRun.{ExtentRun}
use Rattle.extent_alloc.specs.Free.{unused, with_extent}

-- the run has the extent
abbrev pub Has : ExtentRun → ℕ → Type 0
Has run extent = (run.first ≤ extent) × (extent < run.first + run.count)

-- one of them has it
abbrev pub Lies : List ExtentRun → ℕ → Type 0
Lies [] extent = ⊥
Lies (run ∷ runs) extent = Has run extent ⊎ Lies runs extent

-- each begins at this extent or later and has one, and another lies between it and the next
abbrev pub Begin : ℕ → List ExtentRun → Type 0
Begin at [] = Unit {0}
Begin at (run ∷ runs) = (at ≤ run.first) × (1 ≤ run.count) × Begin (run.first + run.count + 1) runs

pub begin_earlier : (at later : ℕ) (runs : List ExtentRun) → at ≤ later → Begin later runs → Begin at runs
begin_earlier at later [] le begin = tt
begin_earlier at later (run ∷ runs) le begin = (omega (arith, begin.0), begin.1, begin.2)

lies_after : (at extent : ℕ) (runs : List ExtentRun) → Begin at runs → Lies runs extent → at ≤ extent
lies_after at extent [] begin lies = absurd lies
lies_after at extent (run ∷ runs) begin (inl has) = omega (arith, begin.0, has.0)
lies_after at extent (run ∷ runs) begin (inr later) =
    let rest : run.first + run.count + 1 ≤ extent = lies_after (run.first + run.count + 1) extent runs begin.2 later in
    omega (arith, begin.0)

lies_from_first : (at extent : ℕ) (run : ExtentRun) (runs : List ExtentRun) → Begin at (run ∷ runs) → Lies (run ∷ runs) extent
    → run.first ≤ extent
lies_from_first at extent run runs begin (inl has) = has.0
lies_from_first at extent run runs begin (inr later) =
    let rest : run.first + run.count + 1 ≤ extent = lies_after (run.first + run.count + 1) extent runs begin.2 later in
    omega arith

has_first : (at : ℕ) (run : ExtentRun) (runs : List ExtentRun) → Begin at (run ∷ runs) → Lies (run ∷ runs) run.first
has_first at run runs begin = inl (omega arith, omega (arith, begin.1))

-- a run of the one list is no shorter than the one of the other that begins with it
no_shorter : (at to : ℕ) (x y : ExtentRun) (xs ys : List ExtentRun) → Begin at (x ∷ xs) → Begin to (y ∷ ys) → x.first ≡ y.first
    → ((extent : ℕ) → Lies (y ∷ ys) extent → Lies (x ∷ xs) extent) → y.count ≤ x.count
no_shorter at to x y xs ys begin begin' same there =
    elim (cases_lt x.count y.count) [
      | inl less ↦ absurd (behind less (there (x.first + x.count) (inl (omega (arith, same), omega (arith, same, less)))))
      | inr more ↦ more
    ]
  where
    behind : x.count < y.count → Lies (x ∷ xs) (x.first + x.count) → ⊥
    behind less (inl has) = omega (arith, has.1)
    behind less (inr later) =
        let rest : x.first + x.count + 1 ≤ x.first + x.count = lies_after (x.first + x.count + 1) (x.first + x.count) xs begin.2 later in
        omega arith

-- what lies behind the first run of the one list lies behind that of the other
later_too : (at to extent : ℕ) (x y : ExtentRun) (xs ys : List ExtentRun) → Begin at (x ∷ xs) → x.first ≡ y.first → x.count ≡ y.count
    → ((e : ℕ) → Lies (x ∷ xs) e → Lies (y ∷ ys) e) → Lies xs extent → Lies ys extent
later_too at to extent x y xs ys begin first count there lies =
    let rest : x.first + x.count + 1 ≤ extent = lies_after (x.first + x.count + 1) extent xs begin.2 lies in
    ⊎_elim (λ (has : Has y extent). absurd (omega (arith, has.1, first, count))) (λ (later : Lies ys extent). later)
    (there extent (inr lies))

pub same_runs : (at to : ℕ) (xs ys : List ExtentRun) → Begin at xs → Begin to ys → ((extent : ℕ) → Lies xs extent → Lies ys extent)
    → ((extent : ℕ) → Lies ys extent → Lies xs extent) → xs ≡ ys
same_runs at to [] [] begin begin' there back = refl
same_runs at to [] (y ∷ ys) begin begin' there back = absurd (back y.first (has_first to y ys begin'))
same_runs at to (x ∷ xs) [] begin begin' there back = absurd (there x.first (has_first at x xs begin))
same_runs at to (x ∷ xs) (y ∷ ys) begin begin' there back =
    let low : y.first ≤ x.first = lies_from_first to x.first y ys begin' (there x.first (has_first at x xs begin)) in
    let high : x.first ≤ y.first = lies_from_first at y.first x xs begin (back y.first (has_first to y ys begin')) in
    let first : x.first ≡ y.first = omega arith in
    let short : y.count ≤ x.count = no_shorter at to x y xs ys begin begin' first back in
    let long : x.count ≤ y.count = no_shorter to at y x ys xs begin' begin (sym first) there in
    let count : x.count ≡ y.count = omega arith in
    ap₂ (λ (run : ExtentRun) (runs : List ExtentRun). run ∷ runs)
    (ap₂ (λ (f n : ℕ). let run : ExtentRun = record { first = f; count = n } in run) first count)
    (same_runs (x.first + x.count + 1) (y.first + y.count + 1) xs ys begin.2 begin'.2
    (λ extent lies. later_too at to extent x y xs ys begin first count there lies)
    (λ extent lies. later_too to at extent y x ys xs begin' (sym first) (sym count) back lies))

-- an extent before them
begin_with : (at : ℕ) (runs : List ExtentRun) → Begin (at + 1) runs → Begin at (with_extent at runs)
begin_with at [] begin = (omega arith, omega arith, tt)
begin_with at (run ∷ runs) begin =
    cond_both (nat_eq run.first (at + 1)) _ _ (Begin at)
    (λ same. (
      omega arith,
      omega arith,
      begin_earlier (at + (run.count + 1) + 1) (run.first + run.count + 1) runs
          (omega (arith, eqb-true run.first (at + 1) same)) begin.2,
    ))
    (λ other. (omega arith, omega arith, (omega (arith, begin.0, eqb-false run.first (at + 1) other), begin.1, begin.2)))

lies_with : (at extent : ℕ) (runs : List ExtentRun) → Lies (with_extent at runs) extent → (extent ≡ at) ⊎ Lies runs extent
lies_with at extent [] (inl has) = inl (omega (arith, has.0, has.1))
lies_with at extent [] (inr none) = absurd none
lies_with at extent (run ∷ runs) lies =
    cond_both (nat_eq run.first (at + 1)) _ _ (λ some. Lies some extent → (extent ≡ at) ⊎ Lies (run ∷ runs) extent)
    (λ same lies. longer (eqb-true run.first (at + 1) same) lies)
    (λ other lies. before lies) lies
  where
    longer : run.first ≡ at + 1 → Lies (record { first = at; count = run.count + 1 } ∷ runs) extent
        → (extent ≡ at) ⊎ Lies (run ∷ runs) extent
    longer same (inl has) =
        elim (cases_eq extent at) [
          | inl is ↦ inl is
          | inr other ↦ inr (inl (omega (arith, same, has.0, other), omega (arith, same, has.1)))
        ]
    longer same (inr later) = inr (inr later)

    before : Lies (record { first = at; count = 1 } ∷ run ∷ runs) extent → (extent ≡ at) ⊎ Lies (run ∷ runs) extent
    before (inl has) = inl (omega (arith, has.0, has.1))
    before (inr later) = inr later

with_lies : (at extent : ℕ) (runs : List ExtentRun) → (extent ≡ at) ⊎ Lies runs extent → Lies (with_extent at runs) extent
with_lies at extent [] (inl is) = inl (omega (arith, is), omega (arith, is))
with_lies at extent [] (inr none) = absurd none
with_lies at extent (run ∷ runs) either =
    cond_both (nat_eq run.first (at + 1)) _ _ (λ some. (extent ≡ at) ⊎ Lies (run ∷ runs) extent → Lies some extent)
    (λ same either. longer (eqb-true run.first (at + 1) same) either)
    (λ other either. before either) either
  where
    longer : run.first ≡ at + 1 → (extent ≡ at) ⊎ Lies (run ∷ runs) extent
        → Lies (record { first = at; count = run.count + 1 } ∷ runs) extent
    longer same (inl is) = inl (omega (arith, is), omega (arith, is))
    longer same (inr (inl has)) = inl (omega (arith, same, has.0), omega (arith, same, has.1))
    longer same (inr (inr later)) = inr later

    before : (extent ≡ at) ⊎ Lies (run ∷ runs) extent → Lies (record { first = at; count = 1 } ∷ run ∷ runs) extent
    before (inl is) = inl (omega (arith, is), omega (arith, is))
    before (inr later) = inr later

-- those that aren't used
pub unused_begin : (used : ℕ → Bool) (at count : ℕ) → Begin at (unused used at count)
unused_begin used at zero = tt
unused_begin used at (suc count) =
    cond_both (used at) _ _ (Begin at)
    (λ is. begin_earlier at (at + 1) (unused used (at + 1) count) (omega arith) (unused_begin used (at + 1) count))
    (λ is. begin_with at (unused used (at + 1) count) (unused_begin used (at + 1) count))

-- what one of those behind the first has
abbrev HasUnused : (ℕ → Bool) → ℕ → ℕ → ℕ → Type 0
HasUnused used at count extent = (at ≤ extent) × (extent < at + count) × (used extent ≡ false)

has_later : (used : ℕ → Bool) (at count extent : ℕ) → HasUnused used (at + 1) count extent → HasUnused used at (suc count) extent
has_later used at count extent all = (omega (arith, all.0), omega (arith, all.1), all.2)

pub unused_has : (used : ℕ → Bool) (at count extent : ℕ) → Lies (unused used at count) extent
    → (at ≤ extent) × (extent < at + count) × (used extent ≡ false)
unused_has used at zero extent lies = absurd lies
unused_has used at (suc count) extent lies =
    let later =
    λ (lies : Lies (unused used (at + 1) count) extent). has_later used at count extent (unused_has used (at + 1) count extent lies) in
    cond_both (used at) _ _ (λ some. Lies some extent → HasUnused used at (suc count) extent)
    (λ is lies. later lies)
    (λ is lies. ⊎_elim (λ (same : extent ≡ at). (omega (arith, same), omega (arith, same), ap used same ∙ is)) later
    (lies_with at extent (unused used (at + 1) count) lies)) lies

pub lies_unused : (used : ℕ → Bool) (at count extent : ℕ) → at ≤ extent → extent < at + count → used extent ≡ false
    → Lies (unused used at count) extent
lies_unused used at zero extent low high is = absurd (omega (arith, low, high))
lies_unused used at (suc count) extent low high is =
    elim (cases_eq extent at) [
      | inl same ↦
          cond_both (used at) _ _ (λ some. Lies some extent)
          (λ used_there. absurd (false≢true (sym is ∙ ap used same ∙ used_there)))
          (λ free. with_lies at extent (unused used (at + 1) count) (inl same))
      | inr other ↦
          let later : Lies (unused used (at + 1) count) extent =
          lies_unused used (at + 1) count extent (omega (arith, low, other)) (omega (arith, high)) is in
          cond_both (used at) _ _ (λ some. Lies some extent) (λ used_there. later)
          (λ free. with_lies at extent (unused used (at + 1) count) (inr later))
    ]

-- extents side by side that all lie in these runs lie in one
pub within_one : (at first count : ℕ) (runs : List ExtentRun) → Begin at runs → 1 ≤ count
    → ((extent : ℕ) → first ≤ extent → extent < first + count → Lies runs extent)
    → (run : ExtentRun) × Contains runs run × (run.first ≤ first) × (first + count ≤ run.first + run.count)
within_one at first count [] begin some lie = absurd (lie first (omega arith) (omega arith))
within_one at first count (run ∷ runs) begin some lie =
    elim (cases_lt first run.first) [
      | inl before ↦ absurd (omega (arith, lies_from_first at first run runs begin (lie first (omega arith) (omega arith))))
      | inr behind ↦
          elim (cases_lt first (run.first + run.count)) [
            | inl here ↦
                elim (cases_lt (run.first + run.count) (first + count)) [
                  | inl on ↦ absurd (past (lie (run.first + run.count) (omega arith) on))
                  | inr ends ↦ (run, contains_first run runs, behind, ends)
                ]
            | inr later ↦
                let found =
                within_one (run.first + run.count + 1) first count runs begin.2 some
                (λ extent low high. ⊎_elim (λ (has : Has run extent). absurd (omega (arith, has.1, low, later)))
                (λ (lies : Lies runs extent). lies) (lie extent low high)) in
                (found.0, contains_later run found.0 runs found.1, found.2, found.3)
          ]
    ]
  where
    past : Lies (run ∷ runs) (run.first + run.count) → ⊥
    past (inl has) = omega (arith, has.1)
    past (inr later) =
        let rest : run.first + run.count + 1 ≤ run.first + run.count =
        lies_after (run.first + run.count + 1) (run.first + run.count) runs begin.2 later in
        omega arith

-- they are no more than all extents
with_sum : (at : ℕ) (runs : List ExtentRun)
    → sum_by (λ (run : ExtentRun). run.count) (with_extent at runs) ≡ suc (sum_by (λ (run : ExtentRun). run.count) runs)
with_sum at [] = refl
with_sum at (run ∷ runs) =
    let old = sum_by-cons (λ (r : ExtentRun). r.count) run runs in
    cond_both (nat_eq run.first (at + 1)) _ _
    (λ some. sum_by (λ (r : ExtentRun). r.count) some ≡ suc (sum_by (λ (r : ExtentRun). r.count) (run ∷ runs)))
    (λ same. omega (arith, old, sum_by-cons (λ (r : ExtentRun). r.count) (record { first = at; count = run.count + 1 }) runs))
    (λ other. omega (arith, old, sum_by-cons (λ (r : ExtentRun). r.count) (record { first = at; count = 1 }) (run ∷ runs)))

pub unused_sum : (used : ℕ → Bool) (at count : ℕ) → sum_by (λ (run : ExtentRun). run.count) (unused used at count) ≤ count
unused_sum used at zero = omega arith
unused_sum used at (suc count) =
    let rest = unused_sum used (at + 1) count in
    cond_both (used at) _ _ (λ some. sum_by (λ (run : ExtentRun). run.count) some ≤ suc count)
    (λ is. omega (arith, rest))
    (λ is. omega (arith, rest, with_sum at (unused used (at + 1) count)))
