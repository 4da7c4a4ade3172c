-- Runs in order lie apart pairwise exactly where neighbours do.
use Rattle.std.proofs.Common.{ℕ, zero, suc, ◌+◌, ◌-◌, ◌<◌, ◌≤◌, List, length, get_or, inl, inr, subst, arith}
use Rattle.std.specs.Prelude.{AllPairs, All}
use Rattle.std.specs.List.{AllAdjacentBelow}
use Rattle.std.proofs.lemmas.Bool.{cases_lt}
use Rattle.meta_model.specs.declared.extent_span.ExtentSpan.{ExtentSpan}
use Rattle.volume_rules.specs.Sorting.{EndsBefore, StandsBefore, NoExtentInBoth}

-- one ends before what stands after another that it ends before
ends_through : (a b c : ExtentSpan) → EndsBefore a b → EndsBefore b c → EndsBefore a c
ends_through a b c (inl p) (inl q) = inl (omega arith)
ends_through a b c (inl p) (inr q) = inl (omega arith)
ends_through a b c (inr p) (inl q) = inl (omega arith)
ends_through a b c (inr p) (inr q) = inr (omega arith, omega arith)

-- where neighbours end before each other, all do: the distance is one more than k
far : (runs : List ExtentSpan) → AllAdjacentBelow EndsBefore runs (length runs) → (i k : ℕ) (d : ExtentSpan) → i + 1 + k < length runs
    → EndsBefore (get_or runs i d) (get_or runs (i + 1 + k) d)
far runs near i zero d lt = subst (λ (n : ℕ). EndsBefore (get_or runs i d) (get_or runs n d)) (omega arith) (near i d (omega arith))
far runs near i (suc k) d lt =
    subst (λ (n : ℕ). EndsBefore (get_or runs i d) (get_or runs n d)) (omega arith)
    (ends_through (get_or runs i d) (get_or runs (i + 1 + k) d) (get_or runs (i + 1 + k + 1) d) (far runs near i k d (omega arith))
    (near (i + 1 + k) d (omega arith)))

pub pairwise_from_neighbours : (runs : List ExtentSpan) → AllAdjacentBelow EndsBefore runs (length runs) → AllPairs EndsBefore runs
pairwise_from_neighbours runs near i j d lt within =
    subst (λ (n : ℕ). EndsBefore (get_or runs i d) (get_or runs n d)) (omega arith) (far runs near i (j - (i + 1)) d (omega arith))

-- of two runs in order, the first ends before the second exactly where they share no extent
pub apart_from_ends : (a b : ExtentSpan) → EndsBefore a b → NoExtentInBoth a b
apart_from_ends a b (inl p) extent same x y z w = omega arith
apart_from_ends a b (inr p) extent same x y z w = omega arith

pub ends_from_apart : (a b : ExtentSpan) → StandsBefore a b → 1 ≤ a.count → 1 ≤ b.count → NoExtentInBoth a b → EndsBefore a b
ends_from_apart a b (inl p) some more apart = inl p
ends_from_apart a b (inr p) some more apart =
    elim (cases_lt b.first (a.first + a.count)) [
      | inl low ↦ absurd (apart b.first p.0 p.1 low (omega arith) (omega arith))
      | inr high ↦ inr (p.0, high)
    ]

-- what is tested is right: neighbours in order end before each other exactly where no two runs share an extent
pub neighbours_tell : (runs : List ExtentSpan) → AllAdjacentBelow StandsBefore runs (length runs) → All (λ run. 1 ≤ run.count) runs
    → AllPairs NoExtentInBoth runs → AllAdjacentBelow EndsBefore runs (length runs)
neighbours_tell runs order some apart k d lt =
    ends_from_apart _ _ (order k d lt) (some k d (omega arith)) (some (k + 1) d lt) (apart k (k + 1) d (omega arith) lt)

pub neighbours_show : (runs : List ExtentSpan) → AllAdjacentBelow EndsBefore runs (length runs) → AllPairs NoExtentInBoth runs
neighbours_show runs near i j d lt within = apart_from_ends _ _ (pairwise_from_neighbours runs near i j d lt within)
