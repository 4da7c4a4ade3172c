-- The segments that are made of given extents.
use Rattle.std.specs.Prelude.{◌≡◌, ◌≤◌, ◌<◌, ℕ, ◌+◌, ◌*◌, ◌%◌, None, List, [], ◌∷◌, length, map, sum_by, All, AllPairs}
use Rattle.meta_model.specs.declared.group.Group.{Group}
use Rattle.meta_model.specs.declared.lv.Lv.{Lv}
use Rattle.meta_model.specs.declared.segment.Leg.{Leg}
use Rattle.meta_model.specs.declared.segment.On.TheVariants as on
use Rattle.meta_model.specs.declared.segment.SegKind.{SegKind}
use Rattle.meta_model.specs.declared.segment.SegKind.TheVariants.{Mirror, Striped}
use Rattle.meta_model.specs.declared.segment.Segment.{Segment}
use Rattle.extent_map.specs.FreeRuns.{IsFree}
use Rattle.extent_alloc.specs.Giving.{LieApart, covered}
use Rattle.extent_alloc.specs.declared.part.Part.{Part}
use Rattle.extent_alloc.specs.declared.part.PartRun.{PartRun}
use Rattle.extent_alloc.specs.declared.part.PvRun.{PvRun}
use Rattle.volume_rules.specs.Rules.{IsPowerOfTwo, IsSmall}

-- ---- segments

-- the leg that begins where this run does
abbrev pub leg_at : PartRun → Leg
leg_at run = record { on = on.Pv run.pv; first = run.first }

-- the legs of a part
abbrev pub legs_in : Part → List Leg
legs_in part = map leg_at part.runs

-- a kind like this one on other legs
abbrev pub kind_on : List Leg → SegKind → SegKind
kind_on legs (Striped stripe others) = Striped stripe legs
kind_on legs (Mirror region moved others) = Mirror region None legs

-- how many extents a segment has whose legs have so many each
abbrev pub extents_by : ℕ → SegKind → ℕ
extents_by share (Striped stripe legs) = share * length legs
extents_by share (Mirror region moved legs) = share

-- the segment of a part, from this extent on
abbrev pub segment_of : SegKind → ℕ → Part → Segment
segment_of kind start part =
    record { start = start; count = extents_by part.extents (kind_on (legs_in part) kind); kind = kind_on (legs_in part) kind }

-- the segments of these parts, one for each, from this extent on
abbrev pub segments_of : SegKind → ℕ → List Part → List Segment
segments_of kind start [] = []
segments_of kind start (part ∷ parts) =
    segment_of kind start part ∷ segments_of kind (start + extents_by part.extents (kind_on (legs_in part) kind)) parts

-- how many extents segments have
abbrev pub extents_in : List Segment → ℕ
extents_in segments = sum_by (λ (segment : Segment). segment.count) segments

-- how many segments the group has
abbrev pub segments_in : Group → ℕ
segments_in group = sum_by (λ (row : List ℕ × Lv). length row.1.segments) group.lvs

-- ---- what may be given

-- each extent of the run is free
abbrev pub IsFreeRun : Group → PvRun → Type 0
IsFreeRun group run = (extent : ℕ) → run.first ≤ extent → extent < run.first + run.count → IsFree group run.pv extent

-- segments with so many legs can be made of these parts: each has an extent, and what its legs cover is free and lies apart
pub record MayBeLaid (group : Group) (count : ℕ) (parts : List Part) : Type 0 where
  pub legs : All (λ part. (1 ≤ part.extents) × (length part.runs ≡ count)) parts
  pub free : All (λ run. IsFreeRun group run) (covered parts)
  pub apart : AllPairs LieApart (covered parts)

-- segments of this kind can have so many legs, where extents have so many sectors
abbrev pub MayHaveLegs : ℕ → ℕ → SegKind → Type 0
MayHaveLegs extent_size count (Striped stripe legs) =
    IsSmall stripe × (1 ≤ count) × (count ≤ 8) × (1 < count → IsPowerOfTwo stripe × (8 ≤ stripe) × (extent_size % stripe ≡ 0))
MayHaveLegs extent_size count (Mirror region moved legs) = IsSmall region × (2 ≤ count) × (count ≤ 8) × IsPowerOfTwo region × (8 ≤ region)
