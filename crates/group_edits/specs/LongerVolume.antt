-- A group in which a logical volume has more extents (lvextend(8)).
use Rattle.std.specs.Prelude.{◌≡◌, ◌≤◌, ◌<◌, ℕ, ◌+◌, ◌*◌, ◌^◌, true, List, [], ◌∷◌, ◌++◌, length}
use Rattle.std.specs.Str.{bytes_eq}
use Rattle.meta_model.specs.Runs.{legs_of}
use Rattle.meta_model.specs.declared.group.Group.{Group}
use Rattle.meta_model.specs.declared.lv.Lv.{Lv}
use Rattle.meta_model.specs.declared.segment.SegKind.{SegKind}
use Rattle.meta_model.specs.declared.segment.SegKind.TheVariants.{Striped}
use Rattle.meta_model.specs.declared.segment.Segment.{Segment}
use Rattle.extent_alloc.specs.declared.part.Part.{Part}
use Rattle.volume_rules.specs.Extents.{extents_of}
use Rattle.volume_rules.specs.Rules.{Follow, LvIsSmall}
use Rattle.group_edits.specs.GivenSegments.{MayBeLaid, segments_in, segments_of}
use Rattle.group_edits.specs.NextVersion.{with_changed}

-- the kind of the last of these segments
abbrev pub last_kind : List Segment → SegKind
last_kind [] = Striped 0 []
last_kind (segment ∷ []) = segment.kind
last_kind (segment ∷ next ∷ segments) = last_kind (next ∷ segments)

-- the volume with segments of these parts behind its own, of the kind of its last one
abbrev pub longer : List Part → Lv → Lv
longer given lv = record lv { segments = lv.segments ++ segments_of (last_kind lv.segments) (extents_of lv) given }

-- its row in the table of volumes
abbrev pub longer_row : List Part → List ℕ × Lv → List ℕ × Lv
longer_row given row = (row.0, longer given row.1)

-- the volume of this name has segments of these parts too
abbrev pub longer_volume : List ℕ → List Part → Group → Group
longer_volume name given group = with_changed name (longer_row given) group

-- a volume of the group may have segments of these parts too: they have as many legs as its last one, it has less than 2^48
-- sectors then, and the group no more segments than it may have
pub record MayGrow (group : Group) (lv : Lv) (given : List Part) : Type 0 where
  pub laid : MayBeLaid group (length (legs_of (last_kind lv.segments))) given
  pub sectors : extents_of (longer given lv) * group.extent_size < 2 ^ 48
  pub segments : segments_in group + length given ≤ 16384

-- a volume that can be made longer: it has a segment, its segments follow each other, and its extents fit 64 bits then
pub record CanBeLonger (given : List Part) (lv : Lv) : Type 0 where
  pub some : 1 ≤ length lv.segments
  pub small : LvIsSmall lv
  pub follow : Follow 0 lv.segments
  pub fits : extents_of (longer given lv) < 2 ^ 64

-- so is the volume of this row, where it has this name
abbrev pub CanBeLongerIf : List ℕ → List Part → List ℕ × Lv → Type 0
CanBeLongerIf name given row = bytes_eq row.0 name ≡ true → CanBeLonger given row.1
