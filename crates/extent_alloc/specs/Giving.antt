-- What a request may be given.
use Rattle.std.specs.Prelude.{◌≡◌, ◌≢◌, ◌≤◌, ◌<◌, ℕ, ◌+◌, IsTrue, List, length, map, sum_by, All, AllPairs}
use Rattle.std.specs.List.{flat_map}
use Rattle.meta_model.specs.declared.group.Group.{Group}
use Rattle.extent_map.specs.FreeRuns.{IsFree}
use Rattle.extent_alloc.specs.Usable.{is_usable}
use Rattle.extent_alloc.specs.declared.part.Part.{Part}
use Rattle.extent_alloc.specs.declared.part.PartRun.{PartRun}
use Rattle.extent_alloc.specs.declared.part.PvRun.{PvRun}
use Rattle.extent_alloc.specs.declared.request.Request.{Request}

-- a request has an extent, and one to eight legs
pub record IsRequest (want : Request) : Type 0 where
  pub extents : 1 ≤ want.extents
  pub legs : (1 ≤ want.legs) × (want.legs ≤ 8)

-- what the legs of a part cover
abbrev pub covered_by : Part → List PvRun
covered_by part = map (λ (run : PartRun). record { pv = run.pv; first = run.first; count = part.extents }) part.runs

-- what the legs of all parts cover
abbrev pub covered : List Part → List PvRun
covered parts = flat_map covered_by parts

-- how many extents each leg has in all
abbrev pub extents_in : List Part → ℕ
extents_in parts = sum_by (λ (part : Part). part.extents) parts

-- the extent of the physical volume lies in the run
abbrev pub LiesAt : ℕ → ℕ → PvRun → Type 0
LiesAt pv extent run = (run.pv ≡ pv) × (run.first ≤ extent) × (extent < run.first + run.count)

-- no extent lies in both runs
abbrev pub LieApart : PvRun → PvRun → Type 0
LieApart a b = (pv extent : ℕ) → LiesAt pv extent a → LiesAt pv extent b → ⊥

-- the run lies on a volume that may be used, and each of its extents is free
abbrev pub MayBeGiven : Group → Request → PvRun → Type 0
MayBeGiven group want run =
    IsTrue (is_usable group want run.pv) × ((extent : ℕ) → run.first ≤ extent → extent < run.first + run.count → IsFree group run.pv extent)

-- a request may be given these parts
pub record IsGiven (group : Group) (want : Request) (parts : List Part) : Type 0 where
  -- a part has an extent, and a run for each leg
  pub legs : All (λ part. (1 ≤ part.extents) × (length part.runs ≡ want.legs)) parts
  pub free : All (MayBeGiven group want) (covered parts)
  pub apart : AllPairs LieApart (covered parts)
  pub enough : extents_in parts ≡ want.extents
  -- a leg in one run is a leg of one part
  pub contiguous : IsTrue want.contiguous → length parts ≡ 1
  -- where there are several legs, each lies on one volume, and different ones on different ones
  pub volumes : 1 < want.legs → (pvs : List ℕ) × AllPairs (λ (a b : ℕ). a ≢ b) pvs
      × All (λ part. map (λ (run : PartRun). run.pv) part.runs ≡ pvs) parts
