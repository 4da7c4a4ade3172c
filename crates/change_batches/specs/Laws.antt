-- What images keep of labels and metadata areas while a change is written, and what they have afterwards.
use Rattle.std.specs.Prelude.{◌≡◌, ◌≢◌, ◌<◌, ◌⊎◌, ℕ, false, [], List, length, take, All, Option, Some, None}
use Rattle.std.specs.Ordering.{nat_cmp}
use Rattle.std.specs.FinSet as set
use Rattle.sector_base.specs.Spans.{covers}
use Rattle.disk_model.specs.Steps.{Image}
use Rattle.pv_label.specs.Label.{IsLabel}
use Rattle.pv_header.specs.PvHeader.{IsPvHeader}
use Rattle.pv_header.specs.declared.extent_list.Extent.{Extent}
use Rattle.mda_header.specs.Header.{IsHeader}
use Rattle.mda_header.specs.HeaderBytes.{header_bytes}
use Rattle.mda_header.specs.declared.header.Locn.{Locn}
use Rattle.mda_ring.specs.declared.area.Area.{Area}
use Rattle.mda_ring.specs.Texts.{text_at}
use Rattle.conf_text.specs.Printed.{printed}
use Rattle.meta_model.specs.declared.group.Group.{Group}
use Rattle.meta_print.specs.Layout.{tree_of}
use Rattle.disk_batch.specs.InTurn.{HasFirstBatches, with_batches}
use Rattle.vg_found.specs.declared.disk.Disk.{Disk}
use Rattle.vg_commit.specs.SectorReading.{ShowsBy, new_reading, old_reading}
use Rattle.vg_commit.specs.Showing.{Names, sectors_of}
use Rattle.vg_commit.specs.Written.{header_of, header_span}
use Rattle.group_plan.specs.Cleared.{cleared_areas, unused_labels}
use Rattle.group_plan.specs.declared.state.Change.{Change}
use Rattle.group_plan.specs.declared.state.NewLabel.{NewLabel}
use Rattle.change_batches.specs.Batches.{areas_of, clear_batches, empty_area, label_bytes}

-- in the image the header of each area names the entry that the list has
abbrev pub ShowsEntries : List (Area × Option Locn) → Image → Type 0
ShowsEntries areas image = All (λ (area : Area × Option Locn). Names area.0 area.1 (sectors_of area.0 image 0)) areas

-- the bytes of the committed text of an area in the image
abbrev pub text_in : Image → Area × Option Locn → List ℕ
text_in image (area, None) = []
text_in image (area, Some locn) = text_at (sectors_of area image) area.size locn.offset locn.size

-- the area shows, whole, what it shows in the base, or the new group's text
abbrev pub IsKeptOrNew : List ℕ → Image → Image → Area × Option Locn → Type 0
IsKeptOrNew text base image area = ShowsBy (old_reading (text_in base)) image area ⊎ ShowsBy (new_reading text) image area

-- the area is on no disk that gets a label
abbrev pub IsOnOther : List NewLabel → Area × Option Locn → Type 0
IsOnOther labels area = All (λ (label : NewLabel). label.disk ≢ area.0.pv) labels

-- each area does so where a group is committed; else each shows what it shows in the base, but on a disk that becomes a new
-- physical volume
abbrev pub AreasKeptBy : Option Group → ℕ → Change → List (Area × Option Locn) → Image → Image → Type 0
AreasKeptBy None now change areas base image =
    All (λ (area : Area × Option Locn). IsOnOther change.labels area → ShowsBy (old_reading (text_in base)) image area) areas
AreasKeptBy (Some group) now change areas base image = All (IsKeptOrNew (printed (tree_of group now)) base image) areas

-- each label sector is as in the base or the new one, whole
abbrev pub LabelsKept : List NewLabel → Image → Image → Type 0
LabelsKept labels base image =
    All (λ (label : NewLabel). (image label.disk label.sector ≡ base label.disk label.sector)
    ⊎ (image label.disk label.sector ≡ label_bytes label)) labels

-- lvm2's readers find the label and the header in its sector
pub record HasLabel (image : Image) (new : NewLabel) : Type 0 where
  pub label : IsLabel (image new.disk new.sector) new.sector
  pub header : IsPvHeader (image new.disk new.sector) new.header []

-- what stands there once the line is done: each label, and each area of the group with its text; where no group is committed,
-- the areas behind the labels are empty
abbrev pub HoldsAfter : Option Group → ℕ → Change → List (Area × Option Locn) → Image → Type 0
HoldsAfter None now change areas image =
    All (λ (label : NewLabel). All (λ (area : Extent). IsHeader
    (sectors_of (record { pv = label.disk; start = area.offset; size = area.size }) image 0) (empty_area area)) label.header.areas)
    change.labels
HoldsAfter (Some group) now change areas image = All (ShowsBy (new_reading (printed (tree_of group now))) image) (areas_of change areas)

-- ---- disks that are cleared

-- the header of the area is as in the base, or empty
abbrev pub IsKeptOrEmpty : Image → Image → Area × Option Locn → Type 0
IsKeptOrEmpty base image area =
    (sectors_of area.0 image 0 ≡ sectors_of area.0 base 0) ⊎ (sectors_of area.0 image 0 ≡ header_bytes (header_of area.0 None None))

-- the header of the area says that no text stands in it
abbrev pub IsEmpty : Image → Area × Option Locn → Type 0
IsEmpty image area = IsHeader (sectors_of area.0 image 0) (header_of area.0 None None)

-- the sector is no label of these disks that is cleared, and no header of an area there
pub record IsUncleared (cleared : set.FinSet nat_cmp) (disks : List Disk) (areas : List (Area × Option Locn)) (pv sector : ℕ) : Type 0 where
  pub labels : All (λ (label : NewLabel). (label.disk ≢ pv) ⊎ (label.sector ≢ sector)) (unused_labels cleared disks)
  pub headers : All (λ (area : Area × Option Locn). covers (header_span area.0) pv sector ≡ false) (cleared_areas cleared areas)

-- what an image keeps of the base while these disks are cleared: each label sector is the old or the new one, each header of an
-- area the old one or empty, and no other sector is written
pub record ClearsKeep (cleared : set.FinSet nat_cmp) (disks : List Disk) (areas : List (Area × Option Locn)) (base image : Image) : Type 0
  where
    pub labels : LabelsKept (unused_labels cleared disks) base image
    pub headers : All (IsKeptOrEmpty base image) (cleared_areas cleared areas)
    pub others : (pv sector : ℕ) → IsUncleared cleared disks areas pv sector → image pv sector ≡ base pv sector

-- they are cleared: lvm2's readers find their labels, of physical volumes that no group uses, and no text in their areas
pub record AreCleared (cleared : set.FinSet nat_cmp) (disks : List Disk) (areas : List (Area × Option Locn)) (image : Image) : Type 0 where
  pub labels : All (HasLabel image) (unused_labels cleared disks)
  pub headers : All (IsEmpty image) (cleared_areas cleared areas)

-- over any base every image on the way keeps what the base holds, each header until the last batch is begun; and once all is
-- written the disks are cleared
pub record ClearsImages (cleared : set.FinSet nat_cmp) (disks : List Disk) (areas : List (Area × Option Locn)) : Type 0 where
  pub kept : (base image : Image) → HasFirstBatches (clear_batches cleared disks areas) base image
      → ClearsKeep cleared disks areas base image
  pub uncleared : (base image : Image) (n : ℕ) → n < length (clear_batches cleared disks areas)
      → HasFirstBatches (take n (clear_batches cleared disks areas)) base image
      → All (λ (area : Area × Option Locn). sectors_of area.0 image 0 ≡ sectors_of area.0 base 0) (cleared_areas cleared areas)
  pub done : (base : Image) → AreCleared cleared disks areas (with_batches (clear_batches cleared disks areas) base)
  -- lvm2's reader finds the header in each label sector that is written
  pub read : All (λ (label : NewLabel). IsPvHeader (label_bytes label) label.header []) (unused_labels cleared disks)
