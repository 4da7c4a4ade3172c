-- The rules that a group keeps, one for each subject, and the groups that are accepted.
use Rattle.std.specs.Prelude.{◌≡◌, ◌≢◌, ◌≤◌, ◌<◌, ℕ, ◌+◌, ◌*◌, ◌%◌, ◌^◌, Bool, IsTrue, IsFalse, cond, nat_eq, None, Some, List, [], ◌∷◌}
use Rattle.std.specs.Prelude.{◌++◌, length, map, take, codes, slice_get, sum_by, All, AllPairs, Contains}
use Rattle.meta_model.specs.declared.group.Group.{Group}
use Rattle.meta_model.specs.declared.pv.Pv.{Pv}
use Rattle.meta_model.specs.declared.lv.Lv.{Lv}
use Rattle.meta_model.specs.declared.segment.Segment.{Segment}
use Rattle.meta_model.specs.declared.segment.SegKind.{SegKind}
use Rattle.meta_model.specs.declared.segment.SegKind.TheVariants.{Striped, Mirror}
use Rattle.meta_model.specs.declared.segment.On.{On}
use Rattle.volume_rules.specs.Extents.{extents_of}
use Rattle.meta_model.specs.declared.segment.On.TheVariants as on
use Rattle.volume_rules.specs.Depths.{load}
use Rattle.volume_rules.specs.Legs.{runs_of, IsUsed, LiesOn, LieApart, IsWayDown}
use Rattle.volume_rules.specs.declared.rule.Rule.{Rule}
use Rattle.volume_rules.specs.declared.rule.Rule.TheVariants.{Numbers, Ids, Volumes, Segments, Extents, Follows, Stripes, Mirrors, Within}
use Rattle.volume_rules.specs.declared.rule.Rule.TheVariants.{Apart, Depth, Moved, Pvmove, Locked}

-- the logical volume with this number
abbrev pub IsLv : Group → ℕ → Lv → Type 0
IsLv group number lv = (name : List ℕ) × (slice_get group.lvs number ≡ Some (name, lv))

-- a power of two
abbrev pub IsPowerOfTwo : ℕ → Type 0
IsPowerOfTwo n = (k : ℕ) × (n ≡ 2 ^ k)

-- below 2^48
abbrev pub IsSmall : ℕ → Type 0
IsSmall n = n < 2 ^ 48

-- each number of a segment's kind is below 2^48
abbrev pub KindIsSmall : SegKind → Type 0
KindIsSmall (Striped stripe legs) = IsSmall stripe × All (λ leg. IsSmall leg.first) legs
KindIsSmall (Mirror region None legs) = IsSmall region × All (λ leg. IsSmall leg.first) legs
KindIsSmall (Mirror region (Some moved) legs) = IsSmall region × IsSmall moved × All (λ leg. IsSmall leg.first) legs

-- each number of the segment
abbrev pub SegmentIsSmall : Segment → Type 0
SegmentIsSmall segment = IsSmall segment.start × IsSmall segment.count × KindIsSmall segment.kind

-- each number of the physical volume
abbrev pub PvIsSmall : Pv → Type 0
PvIsSmall pv = IsSmall pv.dev_size × IsSmall pv.pe_start × IsSmall pv.pe_count

-- each number of the logical volume
abbrev pub LvIsSmall : Lv → Type 0
LvIsSmall lv = IsSmall lv.created × All SegmentIsSmall lv.segments

-- Numbers: the sequence number has 32 bits and isn't 0, the extent size is a multiple of 8 sectors, and the others are below
-- 2^48.
pub record NumbersAreAllowed (group : Group) : Type 0 where
  pub seqno : (1 ≤ group.seqno) × (group.seqno ≤ 4294967295)
  pub extent_size : (8 ≤ group.extent_size) × (group.extent_size ≤ 2 ^ 31) × (group.extent_size % 8 ≡ 0)
  pub limits : IsSmall group.max_lv × IsSmall group.max_pv × IsSmall group.copies
  pub pvs : All (λ pv. PvIsSmall pv.1) group.pvs
  pub lvs : All (λ lv. LvIsSmall lv.1) group.lvs

-- the ids of the group, of its physical and of its logical volumes
abbrev pub ids_of : Group → List (List ℕ)
ids_of group = group.id ∷ (map (λ (pv : List ℕ × Pv). pv.1.id) group.pvs ++ map (λ (lv : List ℕ × Lv). lv.1.id) group.lvs)

-- Ids: they all differ
abbrev pub IdsDiffer : Group → Type 0
IdsDiffer group = AllPairs (λ (a b : List ℕ). a ≢ b) (ids_of group)

-- Volumes: how many there may be, in all and by the limits of the group
pub record VolumesAreFew (group : Group) : Type 0 where
  pub pvs : (1 ≤ length group.pvs) × (length group.pvs ≤ 64)
  pub lvs : length group.lvs ≤ 1024
  pub max_pv : group.max_pv ≢ 0 → length group.pvs ≤ group.max_pv
  pub max_lv : group.max_lv ≢ 0 → length group.lvs ≤ group.max_lv

-- Segments: how many there may be, and that each volume has one
pub record SegmentsAreFew (group : Group) : Type 0 where
  pub few : sum_by (λ (lv : List ℕ × Lv). length lv.1.segments) group.lvs ≤ 16384
  pub some : All (λ lv. 1 ≤ length lv.1.segments) group.lvs

-- the extents of the physical volume end below 2^48 sectors, and on its device, where its size is known
abbrev pub FitsDevice : ℕ → Pv → Type 0
FitsDevice extent_size pv =
    (pv.pe_start + pv.pe_count * extent_size < 2 ^ 48) × (pv.dev_size ≢ 0 → pv.pe_start + pv.pe_count * extent_size ≤ pv.dev_size)

-- Extents: those of each physical volume do
abbrev pub ExtentsFitDevices : Group → Type 0
ExtentsFitDevices group = All (λ pv. FitsDevice group.extent_size pv.1) group.pvs

-- each segment begins where the one before ends, the first at this extent, and has an extent
abbrev pub Follow : ℕ → List Segment → Type 0
Follow at [] = Unit {0}
Follow at (segment ∷ segments) = (segment.start ≡ at) × (1 ≤ segment.count) × Follow (at + segment.count) segments

-- Follows: so do the segments of each volume, from its extent 0 on, and it has less than 2^48 sectors
abbrev pub SegmentsFollow : Group → Type 0
SegmentsFollow group = All (λ lv. Follow 0 lv.1.segments × (extents_of lv.1 * group.extent_size < 2 ^ 48)) group.lvs

-- a striped segment has one to eight legs, which share its extents evenly; with more than one, the stripe size is a power of
-- two of at least 8 sectors that divides an extent
abbrev pub IsWholeStriped : ℕ → ℕ → SegKind → Type 0
IsWholeStriped extent_size count (Striped stripe legs) =
    (1 ≤ length legs) × (length legs ≤ 8) × (count % length legs ≡ 0)
    × (1 < length legs → IsPowerOfTwo stripe × (8 ≤ stripe) × (extent_size % stripe ≡ 0))
IsWholeStriped extent_size count (Mirror region moved legs) = Unit {0}

-- Stripes: each striped segment is so
abbrev pub StripesAreWhole : Group → Type 0
StripesAreWhole group = All (λ lv. All (λ segment. IsWholeStriped group.extent_size segment.count segment.kind) lv.1.segments) group.lvs

-- a mirror segment has two to eight legs, and its region size is a power of two of at least 8 sectors
abbrev pub IsWholeMirror : SegKind → Type 0
IsWholeMirror (Striped stripe legs) = Unit {0}
IsWholeMirror (Mirror region moved legs) = (2 ≤ length legs) × (length legs ≤ 8) × IsPowerOfTwo region × (8 ≤ region)

-- Mirrors: each mirror segment is so
abbrev pub MirrorsAreWhole : Group → Type 0
MirrorsAreWhole group = All (λ lv. All (λ segment. IsWholeMirror segment.kind) lv.1.segments) group.lvs

-- a run with this end lies within the extents of its volume
abbrev pub LiesWithin : Group → On → ℕ → Type 0
LiesWithin group (on.Pv number) end = (name : List ℕ) × (pv : Pv) × (slice_get group.pvs number ≡ Some (name, pv)) × (end ≤ pv.pe_count)
LiesWithin group (on.Lv number) end = (lv : Lv) × IsLv group number lv × (end ≤ extents_of lv)

-- Within: what each leg covers does
abbrev pub LegsLieWithin : Group → Type 0
LegsLieWithin group = All (λ run. LiesWithin group run.on (run.first + run.count)) (runs_of group)

-- Apart: no extent lies in two legs
abbrev pub LegsLieApart : Group → Type 0
LegsLieApart group = AllPairs LieApart (runs_of group)

-- the volume with this number is the PVMOVE volume
abbrev pub IsPvmove : Group → ℕ → Type 0
IsPvmove group number = (lv : Lv) × IsLv group number lv × IsTrue lv.status.pvmove

-- the first volume with PVMOVE, or the number of volumes
abbrev pub pvmove_number : List (List ℕ × Lv) → ℕ
pvmove_number [] = 0
pvmove_number (lv ∷ lvs) = cond lv.1.status.pvmove 0 (pvmove_number lvs + 1)

-- the weight of a volume in a way down: the PVMOVE volume isn't counted
abbrev pub counts : Group → ℕ → ℕ
counts group lv = cond (nat_eq lv (pvmove_number group.lvs)) 0 1

-- Depth: a volume that a leg names is hidden, and a way down from it ends, and has at most three volumes beside the PVMOVE
-- volume, the first one counted.
pub record DepthIsAtMostThree (group : Group) : Type 0 where
  pub hidden : (lv below : ℕ) (volume : Lv) → LiesOn group lv below → IsLv group below volume → IsFalse volume.status.visible
  pub ends : (lv : ℕ) (way : List ℕ) → IsWayDown group (lv ∷ way) → length way ≤ 4
  pub few : (lv : ℕ) (way : List ℕ) → IsWayDown group (lv ∷ way) → load (counts group) way ≤ 3

-- a segment that says how many of its extents were moved is one of a PVMOVE volume, and has as many
abbrev pub MovedIsAllowed : Bool → ℕ → SegKind → Type 0
MovedIsAllowed pvmove count (Striped stripe legs) = Unit {0}
MovedIsAllowed pvmove count (Mirror region None legs) = Unit {0}
MovedIsAllowed pvmove count (Mirror region (Some moved) legs) = IsTrue pvmove × (moved ≤ count)

-- Moved: each segment is so
abbrev pub MovedStandsInPvmove : Group → Type 0
MovedStandsInPvmove group =
    All (λ lv. All (λ segment. MovedIsAllowed lv.1.status.pvmove segment.count segment.kind) lv.1.segments) group.lvs

-- a segment of a move from this physical volume to another one
abbrev pub IsMoveFrom : ℕ → SegKind → Type 0
IsMoveFrom source (Mirror region moved (a ∷ b ∷ [])) = (a.on ≡ on.Pv source) × ((to : ℕ) × (b.on ≡ on.Pv to) × (to ≢ source))
IsMoveFrom source kind = ⊥

-- the PVMOVE volume is hidden and LOCKED, is named `pvmove..`, moves from one physical volume, and each of its extents lies in a
-- leg
pub record IsMove (group : Group) (number : ℕ) (name : List ℕ) (lv : Lv) : Type 0 where
  pub hidden : IsFalse lv.status.visible
  pub locked : IsTrue lv.status.locked
  pub named : take 6 name ≡ codes "pvmove"
  pub from_one : (source : ℕ) × All (λ segment. IsMoveFrom source segment.kind) lv.segments
  -- in exactly one, since legs lie apart
  pub stands_in_legs : (extent : ℕ) → extent < extents_of lv → IsUsed group (on.Lv number) extent

-- Pvmove: there is one PVMOVE volume at most, and it is so
pub record PvmoveIsAllowed (group : Group) : Type 0 where
  pub one : (a b : ℕ) → IsPvmove group a → IsPvmove group b → a ≡ b
  pub whole : (number : ℕ) (name : List ℕ) (lv : Lv) → slice_get group.lvs number ≡ Some (name, lv) → IsTrue lv.status.pvmove
      → IsMove group number name lv

-- a volume is moving where a way down from it meets the PVMOVE volume
abbrev pub IsMoving : Group → ℕ → Type 0
IsMoving group number = (way : List ℕ) × IsWayDown group (number ∷ way) × ((last : ℕ) × Contains (number ∷ way) last × IsPvmove group last)

-- Locked: a LOCKED volume is moving
abbrev pub LockedVolumesMove : Group → Type 0
LockedVolumesMove group = (number : ℕ) (lv : Lv) → IsLv group number lv → IsTrue lv.status.locked → IsMoving group number

-- what each rule asks of a group
abbrev pub Keeps : Group → Rule → Type 0
Keeps group Numbers = NumbersAreAllowed group
Keeps group Ids = IdsDiffer group
Keeps group Volumes = VolumesAreFew group
Keeps group Segments = SegmentsAreFew group
Keeps group Extents = ExtentsFitDevices group
Keeps group Follows = SegmentsFollow group
Keeps group Stripes = StripesAreWhole group
Keeps group Mirrors = MirrorsAreWhole group
Keeps group Within = LegsLieWithin group
Keeps group Apart = LegsLieApart group
Keeps group Depth = DepthIsAtMostThree group
Keeps group Moved = MovedStandsInPvmove group
Keeps group Pvmove = PvmoveIsAllowed group
Keeps group Locked = LockedVolumesMove group

-- the number of a rule in their order
abbrev pub number_of : Rule → ℕ
number_of Numbers = 1
number_of Ids = 2
number_of Volumes = 3
number_of Segments = 4
number_of Extents = 5
number_of Follows = 6
number_of Stripes = 7
number_of Mirrors = 8
number_of Within = 9
number_of Apart = 10
number_of Depth = 11
number_of Moved = 12
number_of Pvmove = 13
number_of Locked = 14

-- the group keeps all rules
abbrev pub IsAccepted : Group → Type 0
IsAccepted group = (rule : Rule) → Keeps group rule

-- the first rule that the group breaks
pub record IsFirstBroken (group : Group) (rule : Rule) : Type 0 where
  pub broken : ¬ Keeps group rule
  pub earlier : (other : Rule) → number_of other < number_of rule → Keeps group other

-- the group keeps each rule of a smaller number
abbrev pub KeepsBelow : ℕ → Group → Type 0
KeepsBelow number group = (other : Rule) → number_of other < number → Keeps group other
