-- The metadata areas of a new physical volume, on a disk that has enough sectors for them.
use Rattle.std.proofs.Common.{◌≤◌, ℕ, ◌==◌, Bool, true, false, cond, [], ◌∷◌, length, arith}
use Rattle.std.specs.Prelude.{All, AllPairs}
use Rattle.std.proofs.lemmas.List.Elements.{All-cons, All-nil}
use Rattle.std.proofs.lemmas.List.Kept.{AllPairs-cons}
use Rattle.pv_header.specs.declared.extent_list.Extent.{Extent}
use Rattle.pv_plans.specs.Pvcreate.{fewest_sectors, first_area, last_area, new_areas}

-- enough for any copies are enough for one
pub enough_for_one : (copies sectors : ℕ) → fewest_sectors copies ≤ sectors → 2056 ≤ sectors
enough_for_one copies sectors enough = by (copies == 2) enough
  where
    by : (two : Bool) → cond two 4096 2056 ≤ sectors → 2056 ≤ sectors
    by true many = let both : 4096 ≤ sectors = many in omega (arith, both)
    by false many = many

-- they are two at most
pub few_areas : (copies sectors : ℕ) → length (new_areas sectors copies) ≤ 2
few_areas copies sectors = by (copies == 0) (copies == 2)
  where
    by : (none two : Bool) → length (cond none [] (first_area ∷ cond two (last_area sectors ∷ []) [])) ≤ 2
    by true two = omega arith
    by false true = omega arith
    by false false = omega arith

-- what holds of the area in front of the data, and of that at the end of a disk with room for both, holds of each of them
pub areas_have : (P : Extent → Type 0) (copies sectors : ℕ) → fewest_sectors copies ≤ sectors → P first_area
    → (4096 ≤ sectors → P (last_area sectors)) → All P (new_areas sectors copies)
areas_have P copies sectors enough first last = by (copies == 0) (copies == 2) enough
  where
    by : (none two : Bool) → cond two 4096 2056 ≤ sectors → All P (cond none [] (first_area ∷ cond two (last_area sectors ∷ []) []))
    by true two many = All-nil P
    by false true many =
        All-cons P first_area (last_area sectors ∷ []) first (All-cons P (last_area sectors) [] (last many) (All-nil P))
    by false false many = All-cons P first_area [] first (All-nil P)

-- and what holds between both holds of each two
pub areas_pair : (R : Extent → Extent → Type 0) (copies sectors : ℕ) → fewest_sectors copies ≤ sectors
    → (4096 ≤ sectors → R first_area (last_area sectors)) → AllPairs R (new_areas sectors copies)
areas_pair R copies sectors enough both = by (copies == 0) (copies == 2) enough
  where
    none_apart : AllPairs R []
    none_apart i j d before within = absurd (omega (arith, before, within))

    one_apart : (area : Extent) → AllPairs R (area ∷ [])
    one_apart area i j d before within = absurd (omega (arith, before, within))

    by : (none two : Bool) → cond two 4096 2056 ≤ sectors → AllPairs R (cond none [] (first_area ∷ cond two (last_area sectors ∷ []) []))
    by true two many = none_apart
    by false true many =
        AllPairs-cons R first_area (last_area sectors ∷ [])
        (All-cons (R first_area) (last_area sectors) [] (both many) (All-nil (R first_area))) (one_apart (last_area sectors))
    by false false many = one_apart first_area
