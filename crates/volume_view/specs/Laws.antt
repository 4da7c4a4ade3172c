-- What holds of the places and views of every accepted group.
use Rattle.std.specs.Prelude.{◌≡◌, ◌<◌, ℕ, ◌+◌, ◌*◌, ◌/◌, IsTrue, Some, List, map, Contains, slice_get, slice_index}
use Rattle.sector_base.specs.declared.places.At.{At}
use Rattle.meta_model.specs.declared.group.Group.{Group}
use Rattle.meta_model.specs.declared.lv.Lv.{Lv}
use Rattle.meta_model.specs.declared.segment.On.TheVariants as on
use Rattle.volume_rules.specs.Extents.{extents_of}
use Rattle.volume_rules.specs.Legs.{IsUsed}
use Rattle.volume_rules.specs.Rules.{IsAccepted}
use Rattle.volume_view.specs.Places.{Places, mark, places, places_on, primary, way}
use Rattle.volume_view.specs.View.{Image, DisksDiffer, at_place, content, view}

-- the sector of the volume lies in no leg of another
abbrev pub IsTop : Group → ℕ → ℕ → Type 0
IsTop group lv sector = IsUsed group (on.Lv lv) (sector / group.extent_size) → ⊥

-- the sectors of a visible volume lie in no leg
abbrev pub VisibleIsTop : Type 0
VisibleIsTop =
    (group : Group) (lv sector : ℕ) (volume : List ℕ × Lv) → IsAccepted group → slice_get group.lvs lv ≡ Some volume
    → IsTrue volume.1.status.visible → IsTop group lv sector

-- two sectors that lie in no leg never have one primary place
abbrev pub PrimariesLieApart : Type 0
PrimariesLieApart =
    (group : Group) (lv other sector other_sector : ℕ) (at : At) → IsAccepted group → IsTop group lv sector → IsTop group other other_sector
    → primary group lv sector ≡ Some at → primary group other other_sector ≡ Some at → (lv ≡ other) × (sector ≡ other_sector)

-- the primary place of a sector that lies in no leg is none of the others of such a sector, of itself or of another
abbrev pub PrimaryIsNoOther : Type 0
PrimaryIsNoOther =
    (group : Group) (lv other sector other_sector : ℕ) (at : At) (p : Places) → IsAccepted group → IsTop group lv sector
    → IsTop group other other_sector
    → primary group lv sector ≡ Some at → places group other other_sector ≡ Some p → Contains p.others at → ⊥

-- each sector of a volume has a primary place
abbrev pub PrimariesStand : Type 0
PrimariesStand =
    (group : Group) (lv sector : ℕ) (volume : List ℕ × Lv) → IsAccepted group → slice_get group.lvs lv ≡ Some volume
    → sector < extents_of volume.1 * group.extent_size
    → (at : At) × (primary group lv sector ≡ Some at)

-- between two multiples of 8 all places of a sector that is further on are as much further on, and the segments and regions
-- on its way down are the same
abbrev pub PiecesLieInOneRegion : Type 0
PiecesLieInOneRegion =
    (group : Group) (lv sector count : ℕ) (p : Places) → IsAccepted group → sector / 8 ≡ (sector + count) / 8
    → places group lv sector ≡ Some p
    → (places group lv (sector + count) ≡ Some (places_on count p))
    × (map mark (way group (on.Lv lv) 5 (sector + count)) ≡ map mark (way group (on.Lv lv) 5 sector))

-- two images with the same contents at the primary places of the visible volumes have one view
abbrev pub ViewsReadPrimaries : Type 0
ViewsReadPrimaries =
    (image other : Image) (group : Group) (disk_of : List ℕ)
    → ((lv sector : ℕ) (volume : List ℕ × Lv) (at : At) → slice_get group.lvs lv ≡ Some volume → IsTrue volume.1.status.visible
    → sector < extents_of volume.1 * group.extent_size → primary group lv sector ≡ Some at
    → at_place image disk_of at ≡ at_place other disk_of at)
    → view image group disk_of ≡ view other group disk_of

-- two images that differ at most at the primary place of a sector that lies in no leg have the same contents of each other
-- such sector
abbrev pub PutsChangeOneSector : Type 0
PutsChangeOneSector =
    (image new : Image) (group : Group) (disk_of : List ℕ) (lv other sector other_sector : ℕ) (at : At) → IsAccepted group
    → DisksDiffer group disk_of → IsTop group lv sector → IsTop group other other_sector
    → primary group lv sector ≡ Some at → (lv ≡ other → sector ≡ other_sector → ⊥)
    → ((disk k : ℕ) → (disk ≡ slice_index disk_of at.pv → k ≡ at.sector → ⊥) → image disk k ≡ new disk k)
    → content image group disk_of other other_sector ≡ content new group disk_of other other_sector
