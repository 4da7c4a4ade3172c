-- What a repair keeps of what the disks hold, in every image on its way, and what they hold once it is done.
use Rattle.std.specs.Prelude.{◌≡◌, ◌≢◌, ◌⊎◌, ℕ, true, false, [], All, Option}
use Rattle.std.specs.FinSet as set
use Rattle.sector_base.specs.Spans.{covers}
use Rattle.disk_model.specs.Steps.{Image}
use Rattle.mda_header.specs.declared.header.Locn.{Locn}
use Rattle.mda_ring.specs.declared.area.Area.{Area}
use Rattle.disk_batch.specs.InTurn.{HasFirstBatches, with_batches}
use Rattle.vg_found.specs.Shape.{HasShape}
use Rattle.vg_found.specs.declared.found.Found.{Found}
use Rattle.vg_commit.specs.SectorReading.{AllShow, new_reading}
use Rattle.vg_commit.specs.Written.{area_span, header_span}
use Rattle.group_plan.specs.declared.state.NewLabel.{NewLabel}
use Rattle.change_batches.specs.Laws.{HasLabel, IsEmpty, IsKeptOrEmpty, IsKeptOrNew, LabelsKept, ShowsEntries}
use Rattle.vg_repair.specs.Batches.{new_labels, repair_batches, stray_areas}
use Rattle.vg_repair.specs.Repaired.{repaired_of}
use Rattle.vg_repair.specs.Stale.{stale_areas, text_of}

-- no stale area is on a stray, and no old disk is one
pub record StraysAreOthers (found : Found) : Type 0 where
  pub stale : All (λ (area : ℕ × ℕ). set.contains found.strays area.0 ≡ false) found.stale
  pub old : (pv : ℕ) → set.contains found.old pv ≡ true → set.contains found.strays pv ≡ false

-- the sector is none of the stale areas', no old disk's or stray's label, and no header of a stray's area
pub record IsOther (found : Found) (pv sector : ℕ) : Type 0 where
  pub stale : All (λ (area : Area × Option Locn). covers (area_span area.0) pv sector ≡ false) (stale_areas found)
  pub labels : All (λ (label : NewLabel). (label.disk ≢ pv) ⊎ (label.sector ≢ sector)) (new_labels found)
  pub headers : All (λ (area : Area × Option Locn). covers (header_span area.0) pv sector ≡ false) (stray_areas found)

-- what an image on the way keeps of the base
pub record IsKept (found : Found) (base image : Image) : Type 0 where
  -- each stale area shows, whole, what it shows in the base, or the text
  pub stale : All (IsKeptOrNew (text_of found) base image) (stale_areas found)
  -- the label sector of each old disk and of each stray is as in the base or the new one, whole, and so is the header of each area
  -- of a stray
  pub labels : LabelsKept (new_labels found) base image
  pub headers : All (IsKeptOrEmpty base image) (stray_areas found)
  -- no other sector is written
  pub others : (pv sector : ℕ) → IsOther found pv sector → image pv sector ≡ base pv sector

-- what stands there once the repair is done
pub record IsRight (found : Found) (image : Image) : Type 0 where
  pub stale : AllShow (new_reading (text_of found)) (stale_areas found) image
  pub labels : All (HasLabel image) (new_labels found)
  pub headers : All (IsEmpty image) (stray_areas found)

-- over a base that shows the entries of the areas every image on the way keeps what the base holds, and once all is written
-- the text stands in each stale area, the labels of the old disks are brought up, and the strays are cleared
pub record KeepsImages (found : Found) : Type 0 where
  pub kept : (base image : Image) → ShowsEntries found.areas base → HasFirstBatches (repair_batches found) base image
      → IsKept found base image
  pub right : (base : Image) → ShowsEntries found.areas base → IsRight found (with_batches (repair_batches found) base)

-- where nothing is stale, no disk is old and there is no stray, nothing is written, and all that is found stays as it is
abbrev pub LeavesAll : Type 0
LeavesAll =
    (found : Found) → HasShape found → found.stale ≡ [] → found.strays ≡ set.empty → found.old ≡ set.empty
    → (repair_batches found ≡ []) × (repaired_of found ≡ found)
