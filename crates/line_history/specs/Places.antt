-- Where the writes of a line and of a repair lie on the disks.
use Rattle.std.specs.Prelude.{◌≡◌, ℕ, ◌/◌, Bool, IsTrue, List, map, flat_map, Option, None, Some}
use Rattle.std.specs.FinSet as set
use Rattle.std.specs.List.{list_any}
use Rattle.std.specs.Ordering.{nat_cmp}
use Rattle.sector_base.specs.Spans.{covers}
use Rattle.lvm_script.specs.declared.line.Line.{Line}
use Rattle.disk_model.specs.Puts.{one_sector}
use Rattle.disk_model.specs.Steps.{Image}
use Rattle.disk_model.specs.Submitting.{writes_at}
use Rattle.pv_header.specs.declared.extent_list.Extent.{Extent}
use Rattle.mda_header.specs.declared.header.Locn.{Locn}
use Rattle.mda_ring.specs.declared.area.Area.{Area}
use Rattle.meta_model.specs.declared.group.Group.{Group}
use Rattle.extent_alloc.specs.declared.part.Part.{Part}
use Rattle.disk_batch.specs.InTurn.{Put}
use Rattle.disk_batch.specs.Writes.{write_work}
use Rattle.vg_found.specs.declared.disk.Disk.{Disk}
use Rattle.vg_found.specs.declared.found.Found.{Found}
use Rattle.vg_commit.specs.Written.{header_span, in_areas}
use Rattle.group_plan.specs.Cleared.{cleared_areas, unused_labels}
use Rattle.group_plan.specs.declared.state.Change.{Change}
use Rattle.group_plan.specs.declared.state.GroupState.{GroupState}
use Rattle.group_plan.specs.declared.state.NewLabel.{NewLabel}
use Rattle.group_plan.specs.declared.backup.Backup.{Backup}
use Rattle.group_ops.specs.Laws.{state_in}
use Rattle.group_ops.specs.Planning.{change_of}
use Rattle.change_batches.specs.Batches.{areas_of}
use Rattle.vg_change.specs.LineBatches.{batches_of, clears_of, zeros_of}
use Rattle.vg_repair.specs.Batches.{old_labels, repair_batches, stray_areas, stray_labels}
use Rattle.vg_repair.specs.Stale.{stale_areas}
use Rattle.image_scans.specs.Laws.{CanCarryOut, IsFree}
use Rattle.repair_scans.specs.Laws.{CanRepair}

-- a write of one of the batches covers this sector of this disk
abbrev pub BatchesWrite : List (List Put) → ℕ → ℕ → Type 0
BatchesWrite batches pv sector = IsTrue (writes_at (map write_work (flat_map (λ batch. batch) batches)) pv sector)

-- whether the sector of this disk is that of one of the labels
abbrev pub in_labels : List NewLabel → ℕ → ℕ → Bool
in_labels labels pv sector = list_any (λ (label : NewLabel). covers (one_sector label.disk label.sector) pv sector) labels

-- whether it is that of the header of one of the areas
abbrev pub in_headers : List (Area × Option Locn) → ℕ → ℕ → Bool
in_headers areas pv sector = list_any (λ (area : Area × Option Locn). covers (header_span area.0) pv sector) areas

-- whether it is that of the header of an area that stands behind one of the labels
abbrev pub in_new_headers : List NewLabel → ℕ → ℕ → Bool
in_new_headers labels pv sector =
    list_any (λ (label : NewLabel). list_any (λ (area : Extent). covers (one_sector label.disk (area.offset / 512)) pv sector)
    label.header.areas) labels

-- where a line may write that makes this change, on disks with these areas
pub data IsLinePlace (change : Change) (areas : List (Area × Option Locn)) (pv sector : ℕ) : Type 0 where
  -- a metadata area of a physical volume of the group that it commits
  InArea : (group : Group) → change.group ≡ Some group → IsTrue (in_areas (areas_of change areas) pv sector)
      → IsLinePlace change areas pv sector
  -- the label sector of a physical volume that it creates or adds
  AtLabel : IsTrue (in_labels change.labels pv sector) → IsLinePlace change areas pv sector
  -- the header of a metadata area of a physical volume that it creates, where it commits no group
  AtHeader : change.group ≡ None → IsTrue (in_new_headers change.labels pv sector) → IsLinePlace change areas pv sector

-- where a repair may write
pub data IsRepairPlace (found : Found) (pv sector : ℕ) : Type 0 where
  -- a stale area
  InStale : IsTrue (in_areas (stale_areas found) pv sector) → IsRepairPlace found pv sector
  -- the label sector of an old physical volume
  AtOld : IsTrue (in_labels (old_labels found) pv sector) → IsRepairPlace found pv sector
  -- the label sector of a stray
  AtStray : IsTrue (in_labels (stray_labels found) pv sector) → IsRepairPlace found pv sector
  -- the header of a metadata area of a stray
  AtStrayHeader : IsTrue (in_headers (stray_areas found) pv sector) → IsRepairPlace found pv sector

-- where a line may write that clears these disks: the label sector of one of them, or the header of a metadata area there
pub data IsClearPlace (cleared : set.FinSet nat_cmp) (disks : List Disk) (areas : List (Area × Option Locn)) (pv sector : ℕ) : Type 0 where
  AtUnused : IsTrue (in_labels (unused_labels cleared disks) pv sector) → IsClearPlace cleared disks areas pv sector
  AtCleared : IsTrue (in_headers (cleared_areas cleared areas) pv sector) → IsClearPlace cleared disks areas pv sector

-- ---- the laws

-- each write of a line behind its zeros lies where a line may write
abbrev pub LineWritesLie : Type 0
LineWritesLie =
    (base : Image) (sizes : List ℕ) (found : Found) (names : List (List ℕ)) (backup : Option Backup) (line : Line) (now : ℕ)
    (given : List Part) → CanCarryOut base sizes found names backup line now given
    → (pv sector : ℕ) → BatchesWrite (batches_of (state_in found names backup) line now given) pv sector
    → IsLinePlace (change_of (state_in found names backup) line now given) (state_in found names backup).areas pv sector

-- each write of its zeros lies in the extents of the group that was found, at no primary place of a volume
abbrev pub ZeroWritesLie : Type 0
ZeroWritesLie =
    (base : Image) (sizes : List ℕ) (found : Found) (names : List (List ℕ)) (backup : Option Backup) (line : Line) (now : ℕ)
    (given : List Part) → CanCarryOut base sizes found names backup line now given
    → (pv sector : ℕ) → BatchesWrite (zeros_of (state_in found names backup) line now given) pv sector
    → (group : Group) × (found.group ≡ Some group) × IsFree group found.disk_of pv sector

-- each write that clears a disk lies on one that the group lets go
abbrev pub ClearWritesLie : Type 0
ClearWritesLie =
    (state : GroupState) (line : Line) (now : ℕ) (given : List Part) (pv sector : ℕ)
    → BatchesWrite (clears_of state line now given) pv sector
    → IsClearPlace (change_of state line now given).cleared state.disks state.areas pv sector

-- each write of a repair lies where a repair may write
abbrev pub RepairWritesLie : Type 0
RepairWritesLie =
    (base : Image) (sizes : List ℕ) (found : Found) → CanRepair base sizes found → (pv sector : ℕ)
    → BatchesWrite (repair_batches found) pv sector
    → IsRepairPlace found pv sector
