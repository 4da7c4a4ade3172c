-- How many lines are open.
use Rattle.std.proofs.Common.{◌≡◌, ◌≤◌, ℕ, zero, suc, ◌-◌, Bool, true, false, cond, not, ◌||◌, nat_eq, slice_set, List, [], ◌∷◌, length}
use Rattle.std.proofs.Common.{Option, refl, arith}
use Rattle.std.proofs.lemmas.Bool.Decides.{nat_tests}
use Rattle.std.specs.Prelude.{filter, slice_get}
use Rattle.std.specs.Option.{option_map_or}
use Rattle.std.specs.List.{list_any}
use Rattle.line_answers.specs.declared.answer.Answer.{Answer}
use Rattle.line_table.specs.Steps.{is_open}

-- how many of these are open
abbrev pub open_count : List (ℕ × Option Answer) → ℕ
open_count xs = length (filter is_open xs)

-- the one, where it is counted, and so many others
abbrev and_more : Bool → ℕ × Option Answer → List (ℕ × Option Answer) → ℕ
and_more b x xs = length (cond b (x ∷ filter is_open xs) (filter is_open xs))

-- no more than all
pub few_open : (xs : List (ℕ × Option Answer)) → open_count xs ≤ length xs
few_open [] = omega arith
few_open (x ∷ xs) = at (is_open x) (few_open xs)
  where
    at : (b : Bool) → open_count xs ≤ length xs → and_more b x xs ≤ suc (length xs)
    at true le = omega (arith, le)
    at false le = omega (arith, le)

-- none is open where they count to nothing
pub none_open : (xs : List (ℕ × Option Answer)) → nat_eq (open_count xs) 0 ≡ not (list_any is_open xs)
none_open [] = refl
none_open (x ∷ xs) = at (is_open x) (none_open xs)
  where
    at : (b : Bool) → nat_eq (open_count xs) 0 ≡ not (list_any is_open xs) → nat_eq (and_more b x xs) 0 ≡ not (b || list_any is_open xs)
    at true same = grind (arith, nat_tests)
    at false same = same

-- whether the line at this place is open
abbrev is_open_at : List (ℕ × Option Answer) → ℕ → Bool
is_open_at xs at = option_map_or is_open (slice_get xs at) false

-- one that is open counts
pub one_open : (xs : List (ℕ × Option Answer)) (at : ℕ) → is_open_at xs at ≡ true → 1 ≤ open_count xs
one_open [] at open_at = cc
one_open (x ∷ xs) zero open_at = first (is_open x) open_at
  where
    first : (b : Bool) → b ≡ true → 1 ≤ and_more b x xs
    first true e = omega arith
    first false e = cc
one_open (x ∷ xs) (suc at) open_at = later (is_open x) (one_open xs at open_at)
  where
    later : (b : Bool) → 1 ≤ open_count xs → 1 ≤ and_more b x xs
    later true le = omega (arith, le)
    later false le = le

-- once it is answered there is one less
pub open_less : (xs : List (ℕ × Option Answer)) (at : ℕ) (y : ℕ × Option Answer) → is_open_at xs at ≡ true → is_open y ≡ false
    → open_count (slice_set xs at y) ≡ open_count xs - 1
open_less [] at y open_at closed = cc
open_less (x ∷ xs) zero y open_at closed = first (is_open x) (is_open y) open_at closed
  where
    first : (b c : Bool) → b ≡ true → c ≡ false → and_more c y xs ≡ and_more b x xs - 1
    first true false e f = omega arith
    first true true e f = cc
    first false c e f = cc
open_less (x ∷ xs) (suc at) y open_at closed = later (is_open x) (open_less xs at y open_at closed) (one_open xs at open_at)
  where
    later : (b : Bool) → open_count (slice_set xs at y) ≡ open_count xs - 1 → 1 ≤ open_count xs
        → and_more b x (slice_set xs at y) ≡ and_more b x xs - 1
    later true e le = omega (arith, e, le)
    later false e le = e
