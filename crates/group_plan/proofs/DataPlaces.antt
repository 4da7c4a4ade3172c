-- Data areas that lie on a disk begin and end there.
use Rattle.std.proofs.Common.{◌≡◌, ◌≤◌, ℕ, ◌+◌, ◌*◌, Bool, true, false, cond, eqb, ltb, List, [], ◌∷◌, ◌++◌, map, None, min, arith}
use Rattle.std.specs.Prelude.{filter, find, unwrap_or}
use Rattle.std.specs.List.{AllByRecursion as Each, fold, reduce}
use Rattle.std.proofs.lemmas.Bool.Decides.{nat_tests}
use Rattle.std.proofs.lemmas.List.Elements.{recursion_from_All}
use Rattle.pv_header.proofs.Overlaps.{All-from_find}
use Rattle.pv_header.specs.Areas.{CanLie, comes_next, end_of, is_outside, next_start}
use Rattle.pv_header.specs.DataSectors.{data_end_of, data_start_of}
use Rattle.pv_header.specs.declared.extent_list.Extent.{Extent}

abbrev Inside : ℕ → Extent → Type 0
Inside bytes area = area.offset + area.size ≤ bytes

each_inside : (bytes : ℕ) (areas : List Extent) → Each (λ area. is_outside bytes area ≡ false) areas → Each (Inside bytes) areas
each_inside bytes [] all = tt
each_inside bytes (area ∷ areas) all =
    let not : ltb bytes (area.offset + area.size) ≡ false = all.0 in
    let inside : area.offset + area.size ≤ bytes = grind (arith, nat_tests) in
    (inside, each_inside bytes areas all.1)

all_inside : (bytes : ℕ) (areas : List Extent) → find (is_outside bytes) areas ≡ None → Each (Inside bytes) areas
all_inside bytes areas none =
    each_inside bytes areas (recursion_from_All (λ area. is_outside bytes area ≡ false) areas (All-from_find (is_outside bytes) areas none))

later_inside : (bytes : ℕ) (front back : List Extent) → Each (Inside bytes) (front ++ back) → Each (Inside bytes) back
later_inside bytes [] back all = all
later_inside bytes (area ∷ front) back all = later_inside bytes front back all.1

-- the least of offsets
fold_least : (x : ℕ) (xs : List ℕ) → fold min x xs ≤ x
fold_least x [] = omega arith
fold_least x (y ∷ ys) = omega (arith, fold_least (min x y) ys)

first_kept : (bytes place : ℕ) (area : Extent) (areas : List Extent) (b : Bool) → Inside bytes area
    → (unwrap_or (reduce min (map (λ (a : Extent). a.offset) (filter (comes_next place) areas))) bytes ≤ bytes)
    → unwrap_or (reduce min (map (λ (a : Extent). a.offset)
    (cond b (area ∷ filter (comes_next place) areas) (filter (comes_next place) areas)))) bytes ≤ bytes
first_kept bytes place area areas true inside later =
    omega (arith, fold_least area.offset (map (λ (a : Extent). a.offset) (filter (comes_next place) areas)), inside)
first_kept bytes place area areas false inside later = later

next_inside : (bytes place : ℕ) (areas : List Extent) → Each (Inside bytes) areas
    → unwrap_or (reduce min (map (λ (a : Extent). a.offset) (filter (comes_next place) areas))) bytes ≤ bytes
next_inside bytes place [] all = omega arith
next_inside bytes place (area ∷ areas) all =
    first_kept bytes place area areas (comes_next place area) all.0 (next_inside bytes place areas all.1)

ends_by : (bytes : ℕ) (areas : List Extent) (area : Extent) (b : Bool) → Inside bytes area → Each (Inside bytes) areas
    → cond b (next_start areas area.offset bytes) (area.offset + area.size) ≤ bytes
unfolding next_start
ends_by bytes areas area true inside all = next_inside bytes area.offset areas all
ends_by bytes areas area false inside all = inside

pub data_starts : (held areas : List Extent) (disk : ℕ) → 8 ≤ disk → CanLie held areas (disk * 512) → data_start_of held disk ≤ disk
data_starts [] areas disk least lie = omega arith
data_starts (area ∷ more) areas disk least lie =
    let all : Each (Inside (disk * 512)) ((area ∷ more) ++ areas) = all_inside (disk * 512) ((area ∷ more) ++ areas) lie.inside in
    let inside : area.offset + area.size ≤ disk * 512 = all.0 in
    omega (arith, inside)

pub data_ends : (held areas : List Extent) (disk : ℕ) → CanLie held areas (disk * 512) → data_end_of held areas disk ≤ disk
data_ends [] areas disk lie = omega arith
data_ends (area ∷ more) areas disk lie =
    let all : Each (Inside (disk * 512)) ((area ∷ more) ++ areas) = all_inside (disk * 512) ((area ∷ more) ++ areas) lie.inside in
    let end : end_of areas (disk * 512) area ≤ disk * 512 =
    ends_by (disk * 512) areas area (eqb area.size 0) all.0 (later_inside (disk * 512) (area ∷ more) areas all) in
    omega (arith, end)
