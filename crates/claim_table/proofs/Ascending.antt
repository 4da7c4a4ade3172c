-- Lists in order, as a search, an insertion and a removal see them.
use Rattle.std.proofs.Common.{◌≡◌, ◌<◌, ◌≤◌, ℕ, ◌+◌, ◌-◌, true, false, List, length, get_or, nat_lt, ◌==◌, refl, ap, ◌∙◌, arith}
use Rattle.std.specs.Prelude.{AllPairs}
use Rattle.std.specs.Cmp.{IsTotalOrder}
use Rattle.std.specs.List.{insert}
use Rattle.std.specs.List.Sorted.{IsNonDecreasingBy, IsPartitionPoint}
use Rattle.std.specs.Ordering.{is_lt, ordering_index, ordering_reverse}
use Rattle.std.specs.declared.cmp.Ordering.{Ordering}
use Rattle.std.specs.declared.cmp.Ordering.TheVariants.{Less, Equal, Greater}
use Rattle.std.proofs.lemmas.Bool.{ltb-true, ltb-false, eqb-true, eqb-false}
use Rattle.std.proofs.lemmas.Cmp.{tied_back, alike_right}
use Rattle.std.proofs.lemmas.List.Edits.{length-insert, get_or-insert_below, get_or-insert_at, get_or-insert_above}
use Rattle.std.proofs.lemmas.List.Sorted.{searchable_from_sorted}
use Rattle.claim_table.specs.Sorted.{IsAscending, StandsAt}

-- what a binary search asks
pub searchable : {X : Type 0} {R : X → X → Ordering} → IsTotalOrder R → (xs : List X) (x : X) → IsAscending R xs
    → IsNonDecreasingBy (λ y. ordering_index (R y x)) xs
searchable {X} {R} o xs x up = searchable_from_sorted o (λ (y : X). y) xs x (λ k d low high. up k (k + 1) d (omega arith) high)

-- where it found an equal one
pub stands_at_equal : {X : Type 0} {R : X → X → Ordering} → IsTotalOrder R → (xs : List X) (x : X) (at : ℕ) → IsAscending R xs
    → at < length xs → ((d : X) → R (get_or xs at d) x ≡ Equal) → StandsAt R xs x at
stands_at_equal {X} {R} o xs x at up within tied = record {
  within = omega arith;
  before = λ k d lt. rw (o.congr x (get_or xs at d) (get_or xs k d) (tied_back o (get_or xs at d) x (tied d))) (up k at d lt within);
  behind = λ k d le lt.
      elim (k == at) as (λ b. (k == at) ≡ b → is_lt (R (get_or xs k d) x) ≡ false) [
        | true ↦ λ e. rw (eqb-true k at e) (ap is_lt (tied d))
        | false ↦ λ e. rw (← alike_right o (get_or xs at d) x (get_or xs k d) (tied d)) (up at k d (omega (arith, eqb-false k at e)) lt)
      ] refl;
}

-- where it found none
pub stands_between : {X : Type 0} {R : X → X → Ordering} → IsTotalOrder R → (xs : List X) (x : X) (at : ℕ) → at ≤ length xs
    → IsPartitionPoint (λ y. R y x ≡ Less) (λ y. R y x ≡ Greater) xs at → StandsAt R xs x at
stands_between {X} {R} o xs x at within parts = record {
  within = within;
  before = λ k d lt. ap is_lt (o.antisymm x (get_or xs k d) ∙ ap ordering_reverse (parts.0 k d (omega arith) lt));
  behind = λ k d le lt. ap is_lt (parts.1 k d le lt);
}

-- what holds of all pairs holds with an item that is put in, where it holds of that with those before it and those behind it
pub pairs_insert : {X : Type 0} (R : X → X → Type 0) (xs : List X) (x : X) (at : ℕ) → AllPairs R xs → at ≤ length xs
    → ((k : ℕ) (d : X) → k < at → R (get_or xs k d) x) → ((k : ℕ) (d : X) → at ≤ k → k < length xs → R x (get_or xs k d))
    → AllPairs R (insert xs at x)
pairs_insert {X} R xs x at up le before behind i j d lt within =
    let more : length (insert xs at x) ≡ length xs + 1 = length-insert xs at x le in
    elim (nat_lt j at) as (λ b. nat_lt j at ≡ b → R (get_or (insert xs at x) i d) (get_or (insert xs at x) j d)) [
      | true ↦ λ t.
          let j_lt : j < at = ltb-true j at t in
          rw (get_or-insert_below xs at x d j j_lt le, get_or-insert_below xs at x d i (omega arith) le) (up i j d lt (omega arith))
      | false ↦ λ t.
          let j_ge : at ≤ j = ltb-false j at t in
          elim (nat_lt i at) as (λ b. nat_lt i at ≡ b → R (get_or (insert xs at x) i d) (get_or (insert xs at x) j d)) [
            | true ↦ λ s.
                let i_lt : i < at = ltb-true i at s in
                rw (get_or-insert_below xs at x d i i_lt le)
                (elim (j == at) as (λ b. (j == at) ≡ b → R (get_or xs i d) (get_or (insert xs at x) j d)) [
                  | true ↦ λ e. rw (eqb-true j at e, get_or-insert_at xs at x d le) (before i d i_lt)
                  | false ↦ λ e.
                      let from : j ≡ (j - 1) + 1 = omega (arith, eqb-false j at e) in
                      rw (from, get_or-insert_above xs at x d (j - 1) (omega (arith, eqb-false j at e)) le)
                      (up i (j - 1) d (omega (arith, eqb-false j at e)) (omega arith))
                ] refl)
            | false ↦ λ s.
                let i_ge : at ≤ i = ltb-false i at s in
                let from : j ≡ (j - 1) + 1 = omega arith in
                rw (from, get_or-insert_above xs at x d (j - 1) (omega arith) le)
                (elim (i == at) as (λ b. (i == at) ≡ b → R (get_or (insert xs at x) i d) (get_or xs (j - 1) d)) [
                  | true ↦ λ e. rw (eqb-true i at e, get_or-insert_at xs at x d le) (behind (j - 1) d (omega arith) (omega arith))
                  | false ↦ λ e.
                      let back : i ≡ (i - 1) + 1 = omega (arith, eqb-false i at e) in
                      rw (back, get_or-insert_above xs at x d (i - 1) (omega (arith, eqb-false i at e)) le)
                      (up (i - 1) (j - 1) d (omega (arith, eqb-false i at e)) (omega arith))
                ] refl)
          ] refl
    ] refl

-- a value that is put in at its place
pub ascending_insert : {X : Type 0} (R : X → X → Ordering) (xs : List X) (x : X) (at : ℕ) → IsAscending R xs → StandsAt R xs x at
    → IsAscending R (insert xs at x)
ascending_insert {X} R xs x at up stands =
    pairs_insert (λ (a b : X). is_lt (R b a) ≡ false) xs x at up stands.within stands.before stands.behind
