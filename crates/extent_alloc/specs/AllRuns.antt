-- What is chosen of the free runs of all volumes.
use Rattle.std.specs.Prelude.{ℕ, Bool, nat_le, List, [], ◌∷◌, slice_index_or}
use Rattle.extent_map.specs.declared.extent_run.ExtentRun.{ExtentRun}
use Rattle.extent_alloc.specs.Few.{room_for}
use Rattle.extent_alloc.specs.Free.{runs_on}
use Rattle.extent_alloc.specs.Taking.{IsLongestFirst}
use Rattle.extent_alloc.specs.declared.part.PvRun.{PvRun}
use Rattle.extent_alloc.specs.declared.request.Request.{Request}

-- those of one volume, with its number
abbrev pub runs_at : List (List ExtentRun) → ℕ → List PvRun
runs_at all pv = runs_on pv (slice_index_or all pv [])

-- whether the volume has room for a leg
abbrev pub has_room_at : List (List ExtentRun) → Request → ℕ → Bool
has_room_at all want pv = nat_le want.extents (room_for want (runs_at all pv))

-- what a leg on each of the volumes takes
abbrev pub AreTakenAt : List (List ExtentRun) → List ℕ → List (List PvRun) → Type 0
AreTakenAt all [] [] = Unit {0}
AreTakenAt all [] (leg ∷ legs) = ⊥
AreTakenAt all (pv ∷ pvs) [] = ⊥
AreTakenAt all (pv ∷ pvs) (leg ∷ legs) = IsLongestFirst (runs_at all pv) leg × AreTakenAt all pvs legs
