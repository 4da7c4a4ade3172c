-- Runs that were sorted have the lengths that are sorted, the greatest first.
use Rattle.std.proofs.Common.{◌≡◌, ℕ, zero, suc, ◌+◌, ◌<◌, ◌≤◌, ◌^◌, Bool, List, [], ◌∷◌, get_or, cond, inl, inr, refl, sym, ap, ap₂, ◌∙◌}
use Rattle.std.proofs.Common.{arith, nat_le, sum_by}
use Rattle.std.specs.Prelude.{All, IsPermutation}
use Rattle.std.specs.List.{AllByRecursion}
use Rattle.std.specs.List.Sorted.{IsNonDecreasingBy}
use Rattle.std.proofs.lemmas.Bool.{cases_lt, cond_both, leb-false, leb-true, le-leb, lt-leb}
use Rattle.std.proofs.lemmas.List.Elements.{All-tail, recursion_from_All}
use Rattle.std.proofs.lemmas.List.Sorted.{All-permutation, sum_by-IsPermutation}
use Rattle.std.proofs.lemmas.List.Sums.{sum_by-cons}
use Rattle.extent_alloc.specs.Few.{longest_first, put}
use Rattle.extent_alloc.specs.Free.{counts_of}
use Rattle.extent_alloc.specs.Taking.{shortness}
use Rattle.extent_alloc.specs.declared.part.PvRun.{PvRun}
use Rattle.extent_alloc.proofs.Fewest.{Descending}
use Rattle.list_laws.proofs.Pairs.{all_weaker}

abbrev pub IsSmall : PvRun → Type 0
IsSmall run = run.count < 2 ^ 64

-- none of these runs is longer than that
no_longer : (run : PvRun) (runs : List PvRun) → All IsSmall runs → IsNonDecreasingBy shortness (run ∷ runs)
    → All (λ (r : PvRun). r.count ≤ run.count) runs
no_longer run runs small sorted k d lt =
    let order : shortness run ≤ shortness (get_or runs k d) = sorted zero (suc k) d (omega arith) (omega (arith, lt)) in
    omega (arith, order, small k d lt)

pub descends : (runs : List PvRun) → All IsSmall runs → IsNonDecreasingBy shortness runs → Descending runs
descends [] small sorted = tt
descends (run ∷ runs) small sorted =
    let rest : All IsSmall runs = All-tail IsSmall run runs small in (
      recursion_from_All (λ (r : PvRun). r.count ≤ run.count) runs (no_longer run runs rest sorted),
      descends runs rest (λ i j d le lt. sorted (suc i) (suc j) d (omega (arith, le)) (omega (arith, lt))),
    )

-- numbers of which none is greater than one before it
abbrev Falls : List ℕ → Type 0
Falls [] = Unit {0}
Falls (n ∷ more) = AllByRecursion (λ m. m ≤ n) more × Falls more

all_put : (P : ℕ → Type 0) (n : ℕ) (more : List ℕ) → P n → AllByRecursion P more → AllByRecursion P (put n more)
all_put P n [] here all = (here, tt)
all_put P n (m ∷ more) here all =
    cond_both (nat_le m n) _ _ (AllByRecursion P) (λ le. (here, all)) (λ lt. (all.0, all_put P n more here all.1))

put_falls : (n : ℕ) (more : List ℕ) → Falls more → Falls (put n more)
put_falls n [] falls = (tt, tt)
put_falls n (m ∷ more) falls =
    cond_both (nat_le m n) _ _ Falls
    (λ le. let below : m ≤ n = leb-true m n le in (
      (
        below,
        all_weaker (λ k. k ≤ m) (λ k. k ≤ n) (λ k h. omega (arith, below, h)) more falls.0,
      ),
      falls,
    ))
    (λ lt. let below : n < m = leb-false m n lt in (all_put (λ k. k ≤ m) n more (omega arith) falls.0, put_falls n more falls.1))

longest_falls : (numbers : List ℕ) → Falls (longest_first numbers)
longest_falls [] = tt
longest_falls (n ∷ more) = put_falls n (longest_first more) (longest_falls more)

-- how many of them are at least so great
abbrev one_if : Bool → ℕ
one_if b = cond b 1 0

at_least : ℕ → List ℕ → ℕ
at_least m [] = 0
at_least m (n ∷ more) = one_if (nat_le m n) + at_least m more

at_least_put : (m n : ℕ) (more : List ℕ) → at_least m (put n more) ≡ one_if (nat_le m n) + at_least m more
unfolding at_least
at_least_put m n [] = refl
at_least_put m n (k ∷ more) =
    cond_both (nat_le k n) _ _ (λ some. at_least m some ≡ one_if (nat_le m n) + (one_if (nat_le m k) + at_least m more)) (λ le. refl)
    (λ lt. let rest = at_least_put m n more in omega (arith, rest))

at_least_longest : (m : ℕ) (numbers : List ℕ) → at_least m (longest_first numbers) ≡ at_least m numbers
unfolding at_least
at_least_longest m [] = refl
at_least_longest m (n ∷ more) = let rest = at_least_longest m more in omega (arith, at_least_put m n (longest_first more), rest)

none_at_least : (m n : ℕ) (more : List ℕ) → n < m → AllByRecursion (λ k. k ≤ n) more → at_least m more ≡ 0
unfolding at_least
none_at_least m n [] lt all = refl
none_at_least m n (k ∷ more) lt all = omega (arith, ap one_if (lt-leb m k (omega (arith, lt, all.0))), none_at_least m n more lt all.1)

one_at_least : (n : ℕ) (more : List ℕ) → 1 ≤ at_least n (n ∷ more)
unfolding at_least
one_at_least n more = omega (arith, ap one_if (le-leb n n (omega arith)))

not_greater : (x y : ℕ) (xs ys : List ℕ) → AllByRecursion (λ k. k ≤ x) xs → ((m : ℕ) → at_least m (x ∷ xs) ≡ at_least m (y ∷ ys)) → y ≤ x
unfolding at_least
not_greater x y xs ys all same =
    elim (cases_lt x y) [
      | inl less ↦ absurd (omega (arith, same y, one_at_least y ys, ap one_if (lt-leb y x less), none_at_least y x xs less all))
      | inr more ↦ more
    ]

same_falling : (xs ys : List ℕ) → Falls xs → Falls ys → ((m : ℕ) → at_least m xs ≡ at_least m ys) → xs ≡ ys
unfolding at_least
same_falling [] [] falls falls' same = refl
same_falling [] (y ∷ ys) falls falls' same = absurd (omega (arith, same y, one_at_least y ys))
same_falling (x ∷ xs) [] falls falls' same = absurd (omega (arith, same x, one_at_least x xs))
same_falling (x ∷ xs) (y ∷ ys) falls falls' same =
    let first : x ≡ y = omega (arith, not_greater x y xs ys falls.0 same, not_greater y x ys xs falls'.0 (λ m. sym (same m))) in
    ap₂ (λ (n : ℕ) (more : List ℕ). n ∷ more) first
    (same_falling xs ys falls.1 falls'.1 (λ m. omega (arith, same m, ap (λ n. one_if (nat_le m n)) first)))

counts_fall : (runs : List PvRun) → Descending runs → Falls (counts_of runs)
counts_fall [] order = tt
counts_fall (run ∷ runs) order = (below runs order.0, counts_fall runs order.1)
  where
    below : (some : List PvRun) → AllByRecursion (λ (r : PvRun). r.count ≤ run.count) some
        → AllByRecursion (λ m. m ≤ run.count) (counts_of some)
    below [] all = tt
    below (r ∷ some) all = (all.0, below some all.1)

at_least_counts : (m : ℕ) (runs : List PvRun) → at_least m (counts_of runs) ≡ sum_by (λ (r : PvRun). one_if (nat_le m r.count)) runs
unfolding at_least
at_least_counts m [] = refl
at_least_counts m (run ∷ runs) =
    let rest = at_least_counts m runs in omega (arith, rest, sum_by-cons (λ (r : PvRun). one_if (nat_le m r.count)) run runs)

-- the lengths of the sorted runs
pub sorted_counts : (before after : List PvRun) → All IsSmall before → IsPermutation before after → IsNonDecreasingBy shortness after
    → counts_of after ≡ longest_first (counts_of before)
sorted_counts before after small moved sorted =
    same_falling (counts_of after) (longest_first (counts_of before))
    (counts_fall after (descends after (All-permutation IsSmall before after moved small) sorted))
    (longest_falls (counts_of before))
    (λ m.
    at_least_counts m after
    ∙ sum_by-IsPermutation (λ (r : PvRun). one_if (nat_le m r.count)) before after moved
    ∙ sym (at_least_counts m before)
    ∙ sym (at_least_longest m (counts_of before)))
