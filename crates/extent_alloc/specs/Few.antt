-- How few parts are given.
use Rattle.std.specs.Prelude.{◌≡◌, ◌≤◌, ◌<◌, ℕ, ◌+◌, Bool, nat_eq, nat_le, if◌then◌else◌, List, [], ◌∷◌, length, filter, flat_map, take}
use Rattle.std.specs.Set.{distinct_count}
use Rattle.meta_model.specs.declared.group.Group.{Group}
use Rattle.extent_alloc.specs.Free.{counts_of, free_at, longest, total}
use Rattle.extent_alloc.specs.Giving.{IsGiven}
use Rattle.extent_alloc.specs.Usable.{usable_pvs}
use Rattle.extent_alloc.specs.declared.part.Part.{Part}
use Rattle.extent_alloc.specs.declared.part.PvRun.{PvRun}
use Rattle.extent_alloc.specs.declared.request.Request.{Request}

-- the most of these extents that one leg can have: all, or those of the longest run where it has to lie in one
abbrev pub room_for : Request → List PvRun → ℕ
room_for want runs = if want.contiguous then longest runs else total runs

-- whether the volume has room for a leg
abbrev pub has_room : Group → Request → ℕ → Bool
has_room group want pv = nat_le want.extents (room_for want (free_at group pv))

-- a number in its place among others of which the greatest comes first
abbrev pub put : ℕ → List ℕ → List ℕ
put n [] = n ∷ []
put n (m ∷ more) = if nat_le m n then n ∷ m ∷ more else m ∷ put n more

-- the same numbers, the greatest first
abbrev pub longest_first : List ℕ → List ℕ
longest_first [] = []
longest_first (n ∷ more) = put n (longest_first more)

-- where a leg of so many extents goes on from run to run and ends, if it takes runs of these lengths one after another and the
-- first of them begins at this extent of the leg
abbrev pub ends_from : ℕ → ℕ → List ℕ → List ℕ
ends_from at extents [] = []
ends_from at extents (n ∷ more) = if nat_le extents (at + n) then extents ∷ [] else (at + n) ∷ ends_from (at + n) extents more

-- where legs on these volumes end and go on, each on the longest runs of its volume first
abbrev pub leg_ends : Group → Request → List ℕ → List ℕ
leg_ends group want pvs = flat_map (λ pv. ends_from 0 want.extents (longest_first (counts_of (free_at group pv)))) pvs

-- how many parts these legs have: no leg goes on within a part
abbrev pub parts_on : Group → Request → List ℕ → ℕ
parts_on group want pvs = distinct_count nat_eq (leg_ends group want pvs)

-- the first of these volumes that have room, one for each leg
abbrev pub first_fit : Group → Request → List ℕ → List ℕ
first_fit group want pvs = take want.legs (filter (has_room group want) pvs)

-- how many parts there are where the legs take the first volumes that may be used and have room, in the order of the text
abbrev pub first_fit_parts : Group → Request → ℕ
first_fit_parts group want = parts_on group want (first_fit group want (usable_pvs group want))

-- With one leg, whatever the request may be given has at least as many parts. With more there are at most as many as where
-- legs take the first volumes that have room.
pub record AreFew (group : Group) (want : Request) (parts : List Part) : Type 0 where
  pub one_leg : want.legs ≡ 1 → (others : List Part) → IsGiven group want others → length parts ≤ length others
  pub more_legs : 1 < want.legs → length parts ≤ first_fit_parts group want
