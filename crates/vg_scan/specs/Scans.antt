-- What a scan of disks comes to, and what it does to them.
use Rattle.std.specs.Prelude.{◌≡◌, ◌≤◌, ◌<◌, ℕ, ◌+◌, ◌*◌, true, false, ◌==◌, List, [], length, map, filter, slice_index_or, Option, Some}
use Rattle.std.specs.Prelude.{None, IfSome}
use Rattle.std.specs.FinSet as set
use Rattle.std.specs.Ordering.{nat_cmp}
use Rattle.sector_base.specs.declared.spans.Span.{Span}
use Rattle.disk_model.specs.Since.{ReadsAlone, spans_read}
use Rattle.disk_model.specs.State.{State}
use Rattle.disk_model.specs.Steps.{Image, Step, Record, now_after, steps_on}
use Rattle.pv_header.specs.declared.extent_list.Extent.{Extent}
use Rattle.disk_contents.specs.Reads.{AreAreasOf}
use Rattle.scan_rules.specs.Answers.{IsRefusedBy}
use Rattle.scan_rules.specs.Decision.{Reading, ScanAnswer, FoundGroup, NoGroup, decide_scan}
use Rattle.scan_rules.specs.declared.decision.ScanRefusal.{ScanRefusal}
use Rattle.scan_rules.specs.declared.decision.ScanRefusal.TheVariants.{NoMemory}
use Rattle.vg_found.specs.declared.disk.Disk.{Disk}
use Rattle.vg_found.specs.declared.found.Found.{Found}
use Rattle.vg_found.specs.Disks.{disks_of, held_areas, old_of}
use Rattle.vg_found.specs.Shape.{HasShape}
use Rattle.vg_scan.specs.Readings.{AreReadings}

-- the answer is what was found: a group with its copy and its lists, or none
abbrev pub IsFoundBy : ScanAnswer → Found → Type 0
IsFoundBy (FoundGroup held stale strays missing) found =
    (found.group ≡ Some held.group) × (found.text ≡ Some held.text) × (found.unknown ≡ held.passed)
    × (found.stale ≡ stale) × (found.strays ≡ set.from_list strays) × (found.missing ≡ missing)
IsFoundBy NoGroup found =
    (found.group ≡ None) × (found.text ≡ None) × (found.unknown ≡ []) × (found.stale ≡ []) × (found.strays ≡ set.empty)
    × (found.missing ≡ [])
IsFoundBy _ found = ⊥

-- what was found is what the disks of an image come to, the unread ones taken as empty
pub record IsScanOf (image : Image) (sizes : List ℕ) (found : Found) : Type 0 where
  pub readings : List Reading
  pub are : AreReadings image sizes found.unread found.disks readings
  pub answer : IsFoundBy (decide_scan readings) found
  pub areas : found.areas ≡ held_areas 0 found.disks
  -- its physical volumes are on the disks whose headers have their ids, and these headers are old, or not
  pub disk_of : IfSome found.group (λ group. found.disk_of ≡ disks_of group found.disks)
  pub old : found.old ≡ old_of found.group found.disks

-- they are refused so, the unread ones taken as empty
pub record IsRefusalOfScan (image : Image) (sizes : List ℕ) (unread : set.FinSet nat_cmp) (refusal : ScanRefusal) : Type 0 where
  pub disks : List Disk
  pub readings : List Reading
  pub are : AreReadings image sizes unread disks readings
  pub answer : IsRefusedBy (decide_scan readings) refusal

-- what holds of the disks as reads give them, where they tell their record
abbrev pub HoldsNow : Option Record → (Image → Type 0) → Type 0
HoldsNow told P = IfSome told (λ t. P (now_after t.opened t.steps))

-- operations failed on these disks, and on no other
pub record FailedOn (pvs : set.FinSet nat_cmp) (old new : State) : Type 0 where
  pub rose : (pv : ℕ) → set.contains pvs pv ≡ true → old.faults pv < new.faults pv
  pub same : (pv : ℕ) → set.contains pvs pv ≡ false → new.faults pv ≡ old.faults pv

-- the disks were scanned, each of so many sectors as it has, and this was found
pub record IsScan (old : State) (found : Found) (new : State) : Type 0 where
  pub sizes : map (λ (disk : Disk). disk.sectors) found.disks ≡ old.sizes
  pub now : HoldsNow old.told (λ image. IsScanOf image old.sizes found)
  pub faults : FailedOn found.unread old new
  pub shape : HasShape found

-- they were scanned, and refused so, where these were unread; want of memory says nothing of them
abbrev pub IsScanRefused : State → ScanRefusal → set.FinSet nat_cmp → State → Type 0
IsScanRefused old NoMemory unread new = Unit {0}
IsScanRefused old refusal unread new = HoldsNow old.told (λ image. IsRefusalOfScan image old.sizes unread refusal) × FailedOn unread old new

-- ---- what is read

-- the spans on this disk
abbrev pub spans_on : ℕ → List Span → List Span
spans_on pv spans = filter (λ (span : Span). span.pv == pv) spans

-- a disk whose header lists n metadata areas is read at most 1 + 3n times, and one without a header at most once
abbrev pub AreFewReads : Image → List ℕ → List Span → Type 0
AreFewReads image sizes spans =
    (pv : ℕ) → (areas : List Extent) × AreAreasOf (image pv) (slice_index_or sizes pv 0) areas
    × (length (spans_on pv spans) ≤ 1 + 3 * length areas)

-- a scan submits reads alone, few of each disk
pub record ReadsFew (sizes : List ℕ) (old new : Record) : Type 0 where
  pub since : List Step
  pub steps : new ≡ steps_on since old
  pub reads : ReadsAlone since
  pub few : AreFewReads (now_after old.opened old.steps) sizes (spans_read since)
