-- How the disks of an image read: what a scan decides over.
use Rattle.std.specs.Prelude.{◌≡◌, ℕ, ◌+◌, ◌/◌, List, [], ◌∷◌, map, Option, Some, None}
use Rattle.std.specs.FinSet as set
use Rattle.std.specs.Ordering.{nat_cmp}
use Rattle.disk_model.specs.Steps.{Image}
use Rattle.mda_header.specs.declared.entry.HeaderEntry.{HeaderEntry}
use Rattle.mda_header.specs.declared.entry.HeaderEntry.TheVariants.{Ignored, Nothing, Text, Refused as RefusedFor}
use Rattle.mda_ring.specs.declared.area.Area.{Area}
use Rattle.disk_contents.specs.declared.contents.AreaFound.{AreaFound}
use Rattle.disk_contents.specs.declared.contents.PvFound.{PvFound}
use Rattle.disk_contents.specs.declared.contents.PvFound.TheVariants.{NoLabel, NoHeader, Whole}
use Rattle.disk_contents.specs.Contents.{IsFound}
use Rattle.disk_contents.specs.Standing.{area_on}
use Rattle.scan_rules.specs.Decision.{Area as AreaOf, AreaReading, Found as PvOf, HoldsNone, Reading, Refused}
use Rattle.scan_rules.specs.declared.copy_refusal.CopyRefusal.TheVariants.{HeaderRefused}
use Rattle.vg_found.specs.declared.disk.Disk.{Disk}
use Rattle.vg_found.specs.Shape.{IsUnread}
use Rattle.vg_scan.specs.Texts.{IsStored, stored_bytes}

-- what an area gives, by what its header sector says of the committed text: nothing is read of one that is ignored
abbrev pub IsGiven : (ℕ → List ℕ) → Area → HeaderEntry → Option AreaReading → Type 0
IsGiven sector_at area Ignored reading = reading ≡ None
IsGiven sector_at area Nothing reading = reading ≡ Some HoldsNone
IsGiven sector_at area (Text locn) reading =
    (given : AreaReading) × (reading ≡ Some given) × IsStored locn (stored_bytes sector_at area locn) given
IsGiven sector_at area (RefusedFor refusal) reading = reading ≡ Some (Refused (HeaderRefused refusal))

-- an area that was found, as it reads
pub record IsAreaReading (pv : ℕ) (sector_at : ℕ → List ℕ) (found : AreaFound) (area : AreaOf) : Type 0 where
  pub start_is : area.start ≡ found.area.offset / 512
  pub sectors_is : area.sectors ≡ found.area.size / 512
  pub given : IsGiven sector_at (area_on pv found.area) found.entry area.reading

-- areas in their order
abbrev pub AreAreaReadings : ℕ → (ℕ → List ℕ) → List AreaFound → List AreaOf → Type 0
AreAreaReadings pv sector_at [] [] = Unit {0}
AreAreaReadings pv sector_at [] (area ∷ areas) = ⊥
AreAreaReadings pv sector_at (found ∷ more) [] = ⊥
AreAreaReadings pv sector_at (found ∷ more) (area ∷ areas) = IsAreaReading pv sector_at found area × AreAreaReadings pv sector_at more areas

-- the physical volume that was found, as it reads; none without a header, and none where the disk is unread
abbrev pub IsPvReading : ℕ → (ℕ → List ℕ) → Option PvFound → Option PvOf → Type 0
IsPvReading pv sector_at None reading = reading ≡ None
IsPvReading pv sector_at (Some (NoLabel refusal)) reading = reading ≡ None
IsPvReading pv sector_at (Some (NoHeader label refusal)) reading = reading ≡ None
IsPvReading pv sector_at (Some (Whole label header areas)) None = ⊥
IsPvReading pv sector_at (Some (Whole label header areas)) (Some reading) =
    (reading.id ≡ header.id) × AreAreaReadings pv sector_at areas reading.areas

-- what stands on a disk that was read
abbrev pub IsContents : (ℕ → List ℕ) → ℕ → Option PvFound → Type 0
IsContents sector_at sectors None = Unit {0}
IsContents sector_at sectors (Some contents) = IsFound sector_at sectors contents

-- a disk with these sectors: what stands there, and how it reads
pub record IsDiskReading (pv : ℕ) (sector_at : ℕ → List ℕ) (disk : Disk) (reading : Reading) : Type 0 where
  pub contents : IsContents sector_at disk.sectors disk.contents
  pub sectors_is : reading.sectors ≡ disk.sectors
  pub pv_is : IsPvReading pv sector_at disk.contents reading.pv

-- the disks of an image, where the first has this number, but those that are unread
abbrev pub AreDiskReadings : Image → set.FinSet nat_cmp → ℕ → List Disk → List Reading → Type 0
AreDiskReadings image unread pv [] [] = Unit {0}
AreDiskReadings image unread pv [] (reading ∷ readings) = ⊥
AreDiskReadings image unread pv (disk ∷ disks) [] = ⊥
AreDiskReadings image unread pv (disk ∷ disks) (reading ∷ readings) =
    IsUnread unread pv disk × IsDiskReading pv (image pv) disk reading × AreDiskReadings image unread (pv + 1) disks readings

-- the disks of these sizes in an image, but those that are unread: what stands on them, and how they read
pub record AreReadings (image : Image) (sizes : List ℕ) (unread : set.FinSet nat_cmp) (disks : List Disk) (readings : List Reading) : Type 0
  where
    pub sizes_is : map (λ (disk : Disk). disk.sectors) disks ≡ sizes
    pub each : AreDiskReadings image unread 0 disks readings
