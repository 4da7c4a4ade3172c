-- In which order legs take runs.
use Rattle.std.specs.Prelude.{◌≡◌, ◌≤◌, ◌<◌, ◌⊎◌, ℕ, ◌-◌, ◌^◌, IsTrue, List, [], ◌∷◌, length, All, Contains, IsPermutation}
use Rattle.std.specs.List.Sorted.{IsNonDecreasingBy}
use Rattle.meta_model.specs.declared.group.Group.{Group}
use Rattle.extent_alloc.specs.Free.{free_at, total}
use Rattle.extent_alloc.specs.Laying.{laid_on}
use Rattle.extent_alloc.specs.Usable.{is_usable}
use Rattle.extent_alloc.specs.declared.part.Part.{Part}
use Rattle.extent_alloc.specs.declared.part.PvRun.{PvRun}
use Rattle.extent_alloc.specs.declared.request.Request.{Request}

-- the shorter the run, the greater it is
abbrev pub shortness : PvRun → ℕ
shortness run = 2 ^ 64 - 1 - run.count

-- the same runs, the longest first
abbrev pub IsLongestFirst : List PvRun → List PvRun → Type 0
IsLongestFirst runs sorted = IsPermutation runs sorted × IsNonDecreasingBy shortness sorted

-- what one leg takes of the runs: one that is long enough alone, and where there is none all of them, the longest first
abbrev pub IsTaken : ℕ → List PvRun → List PvRun → Type 0
IsTaken extents runs taken =
    ((run : PvRun) × Contains runs run × (extents ≤ run.count) × (taken ≡ run ∷ []))
    ⊎ (All (λ (run : PvRun). run.count < extents) runs × IsLongestFirst runs taken)

-- a volume of the group that may be used and has as many free extents as are wanted of a leg
pub record IsRoomy (group : Group) (want : Request) (pv : ℕ) : Type 0 where
  pub stands : pv < length group.pvs
  pub usable : IsTrue (is_usable group want pv)
  pub room : want.extents ≤ total (free_at group pv)

-- what a leg on each of the volumes takes
abbrev pub AreTaken : Group → List ℕ → List (List PvRun) → Type 0
AreTaken group [] [] = Unit {0}
AreTaken group [] (leg ∷ legs) = ⊥
AreTaken group (pv ∷ pvs) [] = ⊥
AreTaken group (pv ∷ pvs) (leg ∷ legs) = IsLongestFirst (free_at group pv) leg × AreTaken group pvs legs

-- the pieces of the parts, with a leg more for each of these lists of runs
abbrev pub laid_all : List Part → List (List PvRun) → List Part
laid_all parts [] = parts
laid_all parts (leg ∷ legs) = laid_all (laid_on parts leg) legs
