-- A group in which a logical volume has its first extents alone (lvreduce(8)).
use Rattle.std.specs.Prelude.{◌≡◌, ◌≤◌, ◌<◌, ℕ, zero, suc, ◌+◌, ◌-◌, ◌*◌, ◌/◌, ◌%◌, Bool, false, min, nat_le, if◌then◌else◌, is_some, List}
use Rattle.std.specs.Prelude.{[], ◌∷◌, length}
use Rattle.std.specs.List.{list_any}
use Rattle.meta_model.specs.Runs.{legs_of}
use Rattle.meta_model.specs.declared.group.Group.{Group}
use Rattle.meta_model.specs.declared.lv.Lv.{Lv}
use Rattle.meta_model.specs.declared.segment.Leg.{Leg}
use Rattle.meta_model.specs.declared.segment.SegKind.{SegKind}
use Rattle.meta_model.specs.declared.segment.SegKind.TheVariants.{Mirror, Striped}
use Rattle.meta_model.specs.declared.segment.Segment.{Segment}
use Rattle.volume_rules.specs.Extents.{extents_of}
use Rattle.volume_rules.specs.Moving.{lv_number}
use Rattle.group_edits.specs.NextVersion.{with_changed}

-- so many by parts of a size, rounded up
abbrev pub parts_of : ℕ → ℕ → ℕ
parts_of count size = count / size + min 1 (count % size)

-- a segment has one to eight legs
abbrev pub HasFewLegs : SegKind → Type 0
HasFewLegs kind = (1 ≤ length (legs_of kind)) × (length (legs_of kind) ≤ 8)

-- so many extents of a segment, rounded up to a multiple of its stripes
abbrev pub whole_stripes : ℕ → SegKind → ℕ
whole_stripes count (Striped stripe legs) = parts_of count (length legs) * length legs
whole_stripes count (Mirror region moved legs) = count

-- how many extents of these segments stay where so many are said: the segment that is cut keeps whole stripes
abbrev pub kept_of : List Segment → ℕ → ℕ
kept_of [] said = said
kept_of (segment ∷ segments) said =
    if nat_le said segment.count then whole_stripes said segment.kind else segment.count + kept_of segments (said - segment.count)

-- the first so many extents of these segments
abbrev pub front_of : List Segment → ℕ → List Segment
front_of [] count = []
front_of (segment ∷ segments) zero = []
front_of (segment ∷ segments) (suc count) =
    if nat_le (suc count) segment.count then (record segment { count = suc count }) ∷ [] else segment
    ∷ front_of segments (suc count - segment.count)

-- the leg lies on a logical volume
abbrev pub is_on_lv : Leg → Bool
is_on_lv leg = is_some (lv_number leg.on)

-- a leg of the segment does
abbrev pub has_layer : Segment → Bool
has_layer segment = list_any is_on_lv (legs_of segment.kind)

-- a leg of the volume lies on another logical volume
abbrev pub is_layered : Lv → Bool
is_layered lv = list_any has_layer lv.segments

-- the volume has its first extents alone
abbrev pub shortened : ℕ → Lv → Lv
shortened left lv = record lv { segments = front_of lv.segments left }

-- so has the volume of this name
abbrev pub shortened_volume : List ℕ → ℕ → Group → Group
shortened_volume name left group = with_changed name (λ (row : List ℕ × Lv). (row.0, shortened left row.1)) group

-- the volume may have so many extents alone: it has more, they end with a whole stripe, and no leg lies on a logical volume
pub record MayKeep (left : ℕ) (lv : Lv) : Type 0 where
  pub apart : is_layered lv ≡ false
  pub some : 1 ≤ left
  pub fewer : left < extents_of lv
  pub whole : kept_of lv.segments left ≡ left
