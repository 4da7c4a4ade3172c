-- What was scanned so far: the disks, which of them are unread, and how they read.
use Rattle.std.specs.Prelude.{◌≡◌, ◌≢◌, ◌≤◌, ◌<◌, ℕ, true, List, [], ◌∷◌, ◌++◌, length, map, slice_get, slice_index_or, take}
use Rattle.std.specs.Prelude.{Option, Some, None, option_map, is_none, if◌then◌else◌}
use Rattle.std.specs.FinSet as set
use Rattle.std.specs.Ordering.{nat_cmp}
use Rattle.disk_model.specs.Faults.{HasSameFaults}
use Rattle.disk_model.specs.Since.{BetweenRecords, HoldsOfDisk, ReadsAlone, spans_read}
use Rattle.disk_model.specs.State.{State}
use Rattle.disk_model.specs.Steps.{Step, Record, now_after, steps_on}
use Rattle.disk_contents.specs.declared.contents.PvFound.{PvFound}
use Rattle.scan_rules.specs.Decision.{Reading, SameHeaders, SamePv}
use Rattle.vg_found.specs.declared.disk.Disk.{Disk}
use Rattle.vg_found.specs.Disks.{header_on, pv_shape, shapes}
use Rattle.vg_found.specs.Shape.{ContentsCanStand, IsDisk, IsUnread}
use Rattle.vg_scan.specs.Readings.{AreDiskReadings, IsDiskReading}
use Rattle.vg_scan.specs.Scans.{AreFewReads, FailedOn, HoldsNow, spans_on}

-- a read of the disk failed where nothing is known of what stands there, and else none
abbrev pub HasFaultsOf : ℕ → Option PvFound → State → State → Type 0
HasFaultsOf pv None old new = (old.faults pv < new.faults pv) × ((other : ℕ) → other ≢ pv → new.faults other ≡ old.faults other)
HasFaultsOf pv (Some contents) old new = HasSameFaults old new

-- a disk was scanned: its reading was put behind those before
pub record IsScannedDisk (pv : ℕ) (old : State) (before : List Reading) (disk : Disk) (after : List Reading) (new : State) : Type 0 where
  pub reading : Reading
  pub pushed : after ≡ before ++ reading ∷ []
  pub sectors : disk.sectors ≡ slice_index_or old.sizes pv 0
  pub now : HoldsOfDisk old.told pv (λ sector_at. IsDiskReading pv sector_at disk reading)
  -- whatever the shelf tells
  pub stands : ContentsCanStand pv disk.sectors disk.contents
  pub same_sectors : disk.sectors ≡ reading.sectors
  pub same_pv : SamePv (option_map pv_shape (header_on disk.contents)) reading.pv
  pub faults : HasFaultsOf pv disk.contents old new

-- the unread disks with this one, where it is unread
abbrev pub unread_with : set.FinSet nat_cmp → ℕ → Disk → set.FinSet nat_cmp
unread_with unread pv disk = if is_none disk.contents then set.insert unread pv else unread

-- what holds of the disks that were scanned, whatever the shelf tells
pub record HaveShapes (disks : List Disk) (unread : set.FinSet nat_cmp) (readings : List Reading) : Type 0 where
  pub each : (pv : ℕ) (disk : Disk) → slice_get disks pv ≡ Some disk → IsDisk pv disk × IsUnread unread pv disk
  pub below : (pv : ℕ) → set.contains unread pv ≡ true → pv < length disks
  pub headers : SameHeaders (shapes disks) readings

-- few reads of the disks below this number, and none of others
pub record ReadsFewBelow (count : ℕ) (sizes : List ℕ) (old new : Record) : Type 0 where
  pub since : List Step
  pub steps : new ≡ steps_on since old
  pub reads : ReadsAlone since
  pub few : AreFewReads (now_after old.opened old.steps) sizes (spans_read since)
  pub none_above : (pv : ℕ) → count ≤ pv → spans_on pv (spans_read since) ≡ []

-- the disks below this number were scanned
pub record AreScanned (old : State) (count : ℕ) (disks : List Disk) (unread : set.FinSet nat_cmp) (readings : List Reading)
    (new : State) : Type 0 where
  pub disk_count : length disks ≡ count
  pub reading_count : length readings ≡ count
  pub sizes : map (λ (disk : Disk). disk.sectors) disks ≡ take count old.sizes
  pub now : HoldsNow old.told (λ image. AreDiskReadings image unread 0 disks readings)
  pub shape : HaveShapes disks unread readings
  pub faults : FailedOn unread old new
  pub reads : BetweenRecords (ReadsFewBelow count old.sizes) old.told new.told
