-- Batches while they are put together.
use Rattle.std.specs.Prelude.{◌≡◌, ◌≤◌, ◌<◌, ℕ, List, [], ◌∷◌, ◌++◌, length, map, filter, slice_get, All, AllPairs, Option, Some}
use Rattle.std.specs.Ordering.{nat_cmp}
use Rattle.std.specs.FinSet as set
use Rattle.disk_model.specs.Operations.{IsWithin}
use Rattle.mda_header.specs.declared.header.Locn.{Locn}
use Rattle.mda_ring.specs.Areas.{CanTake, LieApart}
use Rattle.mda_ring.specs.declared.area.Area.{Area}
use Rattle.disk_batch.specs.Batches.{disks_of, writes_of}
use Rattle.disk_batch.specs.InTurn.{CanRun, Put}
use Rattle.disk_batch.specs.Writes.{disks_in}
use Rattle.disk_batch.specs.declared.batch.Batch.{Batch}
use Rattle.vg_found.specs.Disks.{held_areas}
use Rattle.vg_found.specs.Shape.{IsDisk}
use Rattle.vg_found.specs.declared.disk.Disk.{Disk}
use Rattle.vg_commit.specs.Plans.{HeadersRead}
use Rattle.vg_commit.specs.Preparing.{AreWithin}
use Rattle.vg_commit.specs.Written.{area_span}
use Rattle.group_plan.specs.Cleared.{unused_labels}
use Rattle.group_plan.specs.Judging.{lies_on, set_of}
use Rattle.group_plan.specs.declared.state.NewLabel.{NewLabel}
use Rattle.change_batches.specs.Batches.{batch_if, clear_batches, label_put, text_batches}
use Rattle.change_batches.specs.Sound.{sizes_of, FitsFields}

-- the disks of the writes
abbrev pub disks_written : List Put → List ℕ
disks_written puts = map (λ (put : Put). put.0.pv) puts

-- the write is on one of 64 disks
abbrev pub IsOnFew : Put → Type 0
IsOnFew put = put.0.pv < 64

-- the batch writes this and flushes these disks
pub record Is (puts : List Put) (disks : set.FinSet nat_cmp) (batch : Batch) : Type 0 where
  pub writes : writes_of batch ≡ puts
  pub flushes : disks_of batch ≡ disks_in disks

-- a batch of these writes, which flushes their disks, stands behind the others, or none where there are no writes
abbrev pub IsAdded : List Put → List Batch → List Batch → Type 0
IsAdded [] old new = new ≡ old
IsAdded (put ∷ puts) old new = (batch : Batch) × (new ≡ old ++ batch ∷ []) × Is (put ∷ puts) (set_of (disks_written (put ∷ puts))) batch

-- the areas on disks of the set
abbrev pub areas_on : set.FinSet nat_cmp → List (Area × Option Locn) → List (Area × Option Locn)
areas_on disks areas = filter (lies_on disks) areas

-- the three batches of the commit of this text stand behind the others, and can run on disks in which the areas and these disks
-- lie; the headers are read again as they are
pub record IsTextAdded (text : List ℕ) (areas : List (Area × Option Locn)) (flush : set.FinSet nat_cmp) (old new : List Batch) : Type 0 where
  pub writes : map writes_of new ≡ map writes_of old ++ text_batches text areas
  pub run : (sizes : List ℕ) → AreWithin sizes areas flush → All (CanRun sizes) old → All (CanRun sizes) new
  pub read : All (HeadersRead text) areas

-- the next text can be placed in each of the areas, no two share a sector, and each is on one of 64 disks
pub record AreHeld (areas : List (Area × Option Locn)) : Type 0 where
  pub take : All CanTake areas
  pub apart : AllPairs LieApart areas
  pub few : All (λ (area : Area × Option Locn). area.0.pv < 64) areas

-- the area lies in its disk, where the disks have these sizes
abbrev pub LiesIn : List ℕ → Area × Option Locn → Type 0
LiesIn sizes area = IsWithin sizes (area_span area.0)

-- at most 64 disks with what can stand on them, and the areas there that aren't ignored
pub record AreScanned (disks : List Disk) (areas : List (Area × Option Locn)) : Type 0 where
  pub few : length disks ≤ 64
  pub each : (pv : ℕ) (disk : Disk) → slice_get disks pv ≡ Some disk → IsDisk pv disk
  pub held : areas ≡ held_areas 0 disks

-- the batch of these label sectors stands behind the others, if there is one of them, and can run where they can, on disks of these
-- sizes; what is written of labels fits its fields
pub record AreLabelsAdded (labels : List NewLabel) (sizes : List ℕ) (old new : List Batch) : Type 0 where
  pub writes : map writes_of new ≡ map writes_of old ++ batch_if (map label_put labels)
  pub run : All (CanRun sizes) old → All (CanRun sizes) new
  pub fields : All FitsFields labels

-- the batches that clear these disks stand behind the others, and can run on the disks; what is written of labels fits its fields
pub record AreClearsAdded (cleared : set.FinSet nat_cmp) (disks : List Disk) (areas : List (Area × Option Locn))
    (old new : List Batch) : Type 0 where
  pub writes : map writes_of new ≡ map writes_of old ++ clear_batches cleared disks areas
  pub run : All (CanRun (sizes_of disks)) old → All (CanRun (sizes_of disks)) new
  pub fields : All FitsFields (unused_labels cleared disks)
