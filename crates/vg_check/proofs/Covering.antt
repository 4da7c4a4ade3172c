-- Runs in order that follow each other cover what they lie on, and only such do.
use Rattle.std.proofs.Common.{◌≡◌, ◌↔◌, ℕ, ◌+◌, ◌<◌, ◌≤◌, ◌==◌, IsTrue, Bool, true, List, [], ◌∷◌, ◌++◌, length, get_or, take, inl, inr}
use Rattle.std.proofs.Common.{sym, ap, subst, ◌∙◌, arith}
use Rattle.std.specs.Prelude.{All, AllPairs, Contains}
use Rattle.std.proofs.lemmas.Bool.{cases_lt, cases_order}
use Rattle.std.proofs.lemmas.Bool.Decides.{nat_tests}
use Rattle.std.proofs.lemmas.List.{take_more, take_all, get_or-take, length-take}
use Rattle.std.proofs.lemmas.List.Elements.{All-more, All-contains, Contains-append_left, Contains-push}
use Rattle.meta_model.specs.declared.extent_span.ExtentSpan.{ExtentSpan}
use Rattle.volume_rules.specs.Sorting.{CanBeSorted, EndsBefore}
use Rattle.list_laws.proofs.Fronts.{same_read}
use Rattle.vg_check.specs.Covers.{CoversTo, EndsWithin, IsCovered}

-- before the first run
pub covers_none : (runs : List ExtentSpan) (on : ℕ) → CoversTo runs on 0 0
covers_none runs on = record { covers = λ extent lt. absurd (omega arith); ends = λ k d lt. absurd (omega arith) }

step : (runs : List ExtentSpan) (n : ℕ) (d : ExtentSpan) → n < length runs → take (n + 1) runs ≡ take n runs ++ get_or runs n d ∷ []
step runs n d lt = take_more runs n d lt

still : (runs : List ExtentSpan) (on n extent : ℕ) (d : ExtentSpan) → n < length runs → IsCovered (take n runs) on extent
    → IsCovered (take (n + 1) runs) on extent
still runs on n extent d lt is = (
  is.0,
  subst (λ xs. Contains xs is.0) (sym (step runs n d lt)) (Contains-append_left (take n runs) (get_or runs n d ∷ []) is.0 is.1),
  is.2,
  is.3,
  is.4,
)

-- a run on another volume
pub covers_other : (runs : List ExtentSpan) (on n end : ℕ) (d : ExtentSpan) → n < length runs → ((get_or runs n d).on ≡ on → ⊥)
    → CoversTo runs on n end → CoversTo runs on (n + 1) end
covers_other runs on n end d lt other has = record {
  covers = λ extent less. still runs on n extent d lt (has.covers extent less);
  ends = All-more (EndsWithin on end) runs n d lt has.ends (λ same. absurd (other same));
}

-- one that follows
pub covers_more : (runs : List ExtentSpan) (on n end : ℕ) (d : ExtentSpan) → n < length runs → (get_or runs n d).on ≡ on
    → (get_or runs n d).first ≡ end → CoversTo runs on n end → CoversTo runs on (n + 1) ((get_or runs n d).first + (get_or runs n d).count)
covers_more runs on n end d lt same follows has = record {
  covers = λ extent less. elim (cases_lt extent end) [
    | inl before ↦ still runs on n extent d lt (has.covers extent before)
    | inr here ↦ (
      get_or runs n d,
      subst (λ xs. Contains xs (get_or runs n d)) (sym (step runs n d lt))
          (Contains-push (take n runs) (get_or runs n d)),
      same,
      omega arith,
      less,
    )
  ];
  ends =
      All-more (EndsWithin on ((get_or runs n d).first + (get_or runs n d).count)) runs n d lt
      (λ k e less on_it. let before = has.ends k e less on_it in omega arith) (λ on_it. omega arith);
}

-- of two runs of which one ends before the other, on the same volume
ends_first : (a b : ExtentSpan) → EndsBefore a b → a.on ≡ b.on → a.first + a.count ≤ b.first
ends_first a b (inl p) same = absurd (omega arith)
ends_first a b (inr p) same = p.1

-- one that begins too early overlaps an earlier one
below : (runs : List ExtentSpan) (on n : ℕ) (d : ExtentSpan) → n < length runs → AllPairs EndsBefore runs → (get_or runs n d).on ≡ on
    → IsCovered (take n runs) on (get_or runs n d).first → ⊥
below runs on n d lt apart same is =
    let k : ℕ = is.1.0 in
    let before : k < n = omega (arith, is.1.1, length-take n runs) in
    let there : get_or runs k is.0 ≡ is.0 = sym (get_or-take n runs k is.0 before) ∙ is.1.2 in
    let pair : EndsBefore (get_or runs k is.0) (get_or runs n is.0) = apart k n is.0 before lt in
    let ends : EndsBefore is.0 (get_or runs n d) =
    subst (λ r. EndsBefore r (get_or runs n d)) there (subst (EndsBefore (get_or runs k is.0)) (same_read runs n is.0 d lt) pair) in
    omega (arith, ends_first is.0 (get_or runs n d) ends (is.2 ∙ sym same), is.4)

-- before one that begins too late there is a gap
above : (runs : List ExtentSpan) (on n end : ℕ) (d : ExtentSpan) → n < length runs → AllPairs EndsBefore runs → (get_or runs n d).on ≡ on
    → All (EndsWithin on end) (take n runs) → end < (get_or runs n d).first → IsCovered runs on end → ⊥
above runs on n end d lt apart same ended high is =
    let k : ℕ = is.1.0 in
    elim (cases_order k n) [
      | inl here ↦
          let run : get_or runs n d ≡ is.0 = sym (same_read runs n is.0 d lt) ∙ ap (λ (m : ℕ). get_or runs m is.0) (sym here) ∙ is.1.2 in
          let first : (get_or runs n d).first ≡ is.0.first = ap (λ (r : ExtentSpan). r.first) run in
          omega (arith, is.3)
      | inr rest ↦ elim rest [
        | inl before ↦
            let there : get_or (take n runs) k is.0 ≡ is.0 = get_or-take n runs k is.0 before ∙ is.1.2 in
            let within : EndsWithin on end is.0 = subst (EndsWithin on end) there (ended k is.0 (omega (arith, length-take n runs))) in
            omega (arith, within is.2, is.4)
        | inr later ↦
            let pair : EndsBefore (get_or runs n is.0) (get_or runs k is.0) = apart n k is.0 later is.1.1 in
            let ends : EndsBefore (get_or runs n d) is.0 =
            subst (EndsBefore (get_or runs n d)) is.1.2
            (subst (λ r. EndsBefore r (get_or runs k is.0)) (same_read runs n is.0 d lt) pair) in
            omega (arith, ends_first (get_or runs n d) is.0 ends (same ∙ sym is.2), is.3)
      ]
    ]

-- where one doesn't follow, an extent isn't covered
pub gap : (runs : List ExtentSpan) (on n end extents : ℕ) (d : ExtentSpan) → n < length runs → All CanBeSorted runs
    → AllPairs EndsBefore runs → All (EndsWithin on extents) runs → (get_or runs n d).on ≡ on → ((get_or runs n d).first ≡ end → ⊥)
    → CoversTo runs on n end
    → ((extent : ℕ) → extent < extents → IsCovered runs on extent) → ⊥
gap runs on n end extents d lt can apart within same differs has all =
    let run : ExtentSpan = get_or runs n d in
    let some : 1 ≤ run.count = (can n d lt).count.0 in
    let inside : run.first + run.count ≤ extents = within n d lt same in
    elim (cases_order run.first end) [
      | inl is ↦ differs is
      | inr rest ↦ elim rest [
        | inl low ↦ below runs on n d lt apart same (has.covers run.first low)
        | inr high ↦ above runs on n end d lt apart same has.ends high (all end (omega arith))
      ]
    ]

-- all were walked
pub covers_all : (runs : List ExtentSpan) (on n end extents : ℕ) (answer : Bool) → length runs ≤ n → All (EndsWithin on extents) runs
    → CoversTo runs on n end → answer ≡ (end == extents)
    → IsTrue answer ↔ ((extent : ℕ) → extent < extents → IsCovered runs on extent)
covers_all runs on n end extents answer past within has is = (
  λ yes extent lt. subst (λ xs. IsCovered xs on extent) (take_all n runs past)
      (has.covers extent (let same : end ≡ extents = grind (arith, nat_tests) in omega arith)),
  λ all. let same : end ≡ extents = both all in is ∙ (let yes : (end == extents) ≡ true = grind (arith, nat_tests) in yes),
) where
  whole : CoversTo runs on n end → All (EndsWithin on end) runs
  whole has = subst (All (EndsWithin on end)) (take_all n runs past) has.ends

  both : ((extent : ℕ) → extent < extents → IsCovered runs on extent) → end ≡ extents
  both all =
      elim (cases_order end extents) [
        | inl same ↦ same
        | inr rest ↦ elim rest [
          | inl low ↦ let c =
              all end low in let e : EndsWithin on end c.0 = All-contains (EndsWithin on end) runs c.0 (whole has) c.1 in absurd
              (omega (arith, e c.2, c.4))
          | inr high ↦ let c =
              has.covers extents high in let at : Contains runs c.0 = subst (λ xs. Contains xs c.0) (take_all n runs past)
              c.1 in let e : EndsWithin on extents c.0 = All-contains (EndsWithin on extents) runs c.0 within at in absurd
              (omega (arith, e c.2, c.4))
        ]
      ]
