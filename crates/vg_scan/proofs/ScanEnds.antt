-- What one disk gives is taken in, and what all disks come to is the scan.
use Rattle.std.proofs.Common.{◌≡◌, ◌≤◌, ℕ, List, [], ◌∷◌, ◌++◌, length, map, get_or, Option, Some, None, Result, Ok, Err}
use Rattle.std.proofs.Common.{refl, sym, ap, subst, ◌∙◌, arith}
use Rattle.std.specs.Prelude.{option_map, IfOk, IsErrAnd, MatchResult}
use Rattle.std.specs.FinSet as set
use Rattle.std.specs.Ordering.{nat_cmp}
use Rattle.std.proofs.lemmas.List.{take_all}
use Rattle.disk_model.specs.declared.fault.DiskFault.{DiskFault}
use Rattle.disk_model.specs.Faults.{HasSameFaults, IsLastFault}
use Rattle.disk_model.specs.Since.{HoldsOfDisk}
use Rattle.disk_model.specs.State.{State}
use Rattle.disk_model.specs.Steps.{Image, Reading as Reads, Record, now_after}
use Rattle.disk_model.proofs.ReadingAlone as of_disk
use Rattle.disk_contents.specs.declared.contents.PvFound.{PvFound}
use Rattle.disk_contents.specs.declared.read_refusal.ReadRefusal.TheVariants.{ReadFailed}
use Rattle.disk_contents.specs.Causes.{IsReadCause}
use Rattle.disk_contents.specs.Contents.{IsFound}
use Rattle.disk_contents.specs.Standing.{CanStand}
use Rattle.scan_rules.specs.declared.decision.ScanRefusal.{ScanRefusal}
use Rattle.scan_rules.specs.declared.decision.ScanRefusal.TheVariants as refused
use Rattle.scan_rules.specs.Answers.{IsRefusedBy}
use Rattle.scan_rules.specs.Decision.{Found as PvOf, Reading, SamePv, decide_scan}
use Rattle.vg_found.specs.declared.disk.Disk.{Disk}
use Rattle.vg_found.specs.declared.found.Found.{Found}
use Rattle.vg_found.specs.Disks.{header_on, held_areas, pv_shape}
use Rattle.vg_found.specs.Shape.{ContentsCanStand}
use Rattle.vg_scan.specs.declared.scanning.ScanStopped.{ScanStopped}
use Rattle.vg_scan.specs.Disks.{HasItsShape, IsDiskRead}
use Rattle.vg_scan.specs.Outcome.{IsOutcome}
use Rattle.vg_scan.specs.Readings.{AreDiskReadings, AreReadings, IsDiskReading}
use Rattle.vg_scan.specs.Scanned.{AreScanned, HasFaultsOf, IsScannedDisk}
use Rattle.vg_scan.specs.Scans.{FailedOn, HoldsNow, IsRefusalOfScan, IsScan, IsScanOf, IsScanRefused}

-- ---- one disk

abbrev IsTaken : ℕ → Option PvFound → List Reading → List Reading → Option PvOf → Disk → Type 0
IsTaken sectors contents before after read disk =
    (disk ≡ record { sectors = sectors; contents = contents }) × (after ≡ before ++ record { sectors = sectors; pv = read } ∷ [])

pub taken_in : {E : Type 0} (pv : ℕ) (old new : State) (before mid after : List Reading) (sectors : ℕ) (contents : Option PvFound)
    (read : Option PvOf) (r : Result Disk E) → mid ≡ before → sectors ≡ get_or old.sizes pv 0
    → HoldsOfDisk old.told pv (λ sector_at. IsDiskReading pv sector_at (record { sectors = sectors; contents = contents })
    (record { sectors = sectors; pv = read })) → ContentsCanStand pv sectors contents
    → SamePv (option_map pv_shape (header_on contents)) read → HasFaultsOf pv contents old new
    → IfOk r (IsTaken sectors contents mid after read)
    → IfOk r (λ disk. IsScannedDisk pv old before disk after new)
taken_in pv old new before mid after sectors contents read (Ok disk) kept size now stands same faults taken =
    subst (λ (d : Disk). IsScannedDisk pv old before d after new) (sym taken.0) (record {
      reading = record { sectors = sectors; pv = read };
      pushed = taken.1 ∙ ap (λ (l : List Reading). l ++ record { sectors = sectors; pv = read } ∷ []) kept;
      sectors = size;
      now = now;
      stands = stands;
      same_sectors = refl;
      same_pv = same;
      faults = faults;
    })
taken_in pv old new before mid after sectors contents read (Err refusal) kept size now stands same faults taken = tt

-- a disk that was read
pub read_taken : {E : Type 0} (pv : ℕ) (old new : State) (before mid after : List Reading) (sectors : ℕ) (contents : PvFound)
    (read : Option PvOf) (r : Result Disk E) → mid ≡ before → sectors ≡ get_or old.sizes pv 0
    → HoldsOfDisk old.told pv (λ sector_at. IsDiskRead pv sector_at (get_or old.sizes pv 0) contents read)
    → CanStand pv (get_or old.sizes pv 0) contents → HasItsShape contents read → HasSameFaults old new
    → IfOk r (IsTaken sectors (Some contents) mid after read) → IfOk r (λ disk. IsScannedDisk pv old before disk after new)
read_taken pv old new before mid after sectors contents read r kept size holds stands same faults taken =
    taken_in pv old new before mid after sectors (Some contents) read r kept size
    (of_disk.holds_weaker old.told pv (λ sector_at. IsDiskRead pv sector_at (get_or old.sizes pv 0) contents read)
    (λ sector_at. IsDiskReading pv sector_at (record { sectors = sectors; contents = Some contents })
    (record { sectors = sectors; pv = read }))
    (λ sector_at is. record {
      contents = subst (λ (n : ℕ). IsFound sector_at n contents) (sym size) is.contents_is;
      sectors_is = refl;
      pv_is = is.pv_is;
    })
    holds)
    (subst (λ (n : ℕ). CanStand pv n contents) (sym size) stands) same faults taken

-- a disk on which a read failed
pub unread_taken : {E : Type 0} (pv : ℕ) (old new : State) (before mid after : List Reading) (sectors : ℕ) (fault : DiskFault)
    (r : Result Disk E) → mid ≡ before → sectors ≡ get_or old.sizes pv 0
    → IsReadCause pv old new (ReadFailed fault) → IfOk r (IsTaken sectors None mid after None)
    → IfOk r (λ disk. IsScannedDisk pv old before disk after new)
unread_taken pv old new before mid after sectors fault r kept size cause taken =
    let last : IsLastFault old new pv (Reads cause.1.0) = cause.1.1 in
    taken_in pv old new before mid after sectors None None r kept size
    (of_disk.holds_always old.told pv (λ sector_at. IsDiskReading pv sector_at (record { sectors = sectors; contents = None })
    (record { sectors = sectors; pv = None })) (λ sector_at. record { contents = tt; sectors_is = refl; pv_is = refl }))
    tt tt (omega (arith, last.one), last.others) taken

-- ---- all disks

holds_weaker : (told : Option Record) (P Q : Image → Type 0) → ((image : Image) → P image → Q image) → HoldsNow told P → HoldsNow told Q
holds_weaker None P Q make holds = tt
holds_weaker (Some t) P Q make holds = make (now_after t.opened t.steps) holds

abbrev sectors_of : List Disk → List ℕ
sectors_of disks = map (λ (disk : Disk). disk.sectors) disks

all_read : (s0 s : State) (count : ℕ) (disks : List Disk) (unread : set.FinSet nat_cmp) (readings : List Reading)
    → AreScanned s0 count disks unread readings s → length s0.sizes ≤ count
    → (image : Image) → AreDiskReadings image unread 0 disks readings → AreReadings image s0.sizes unread disks readings
all_read s0 s count disks unread readings scanned all image each =
    record { sizes_is = scanned.sizes ∙ take_all count s0.sizes all; each = each }

pub scan_found : (s0 s : State) (count : ℕ) (disks : List Disk) (unread : set.FinSet nat_cmp) (readings : List Reading) (found : Found)
    → AreScanned s0 count disks unread readings s → length s0.sizes ≤ count
    → IsOutcome disks unread readings found → IsScan s0 found s
scan_found s0 s count disks unread readings found scanned all is = record {
  sizes = ap (λ (l : List Disk). sectors_of l) is.disks_are ∙ scanned.sizes ∙ take_all count s0.sizes all;
  now = holds_weaker s0.told (λ image. AreDiskReadings image unread 0 disks readings) (λ image. IsScanOf image s0.sizes found)
      (λ image each. record {
        readings = readings;
        are = subst (λ (l : List Disk). AreReadings image s0.sizes found.unread l readings) (sym is.disks_are)
            (subst (λ (p : set.FinSet nat_cmp). AreReadings image s0.sizes p disks readings) (sym is.unread_are)
            (all_read s0 s count disks unread readings scanned all image each));
        answer = is.answer;
        areas = is.areas ∙ ap (held_areas 0) (sym is.disks_are);
        disk_of = is.shape.disk_of;
        old = is.shape.old;
      })
      scanned.now;
  faults = subst (λ (p : set.FinSet nat_cmp). FailedOn p s0 s) (sym is.unread_are) scanned.faults;
  shape = is.shape;
}

refusal_of : (s0 s : State) (count : ℕ) (disks : List Disk) (unread : set.FinSet nat_cmp) (readings : List Reading) (refusal : ScanRefusal)
    → AreScanned s0 count disks unread readings s → length s0.sizes ≤ count
    → IsRefusedBy (decide_scan readings) refusal
    → HoldsNow s0.told (λ image. IsRefusalOfScan image s0.sizes unread refusal) × FailedOn unread s0 s
refusal_of s0 s count disks unread readings refusal scanned all is = (
  holds_weaker s0.told (λ image. AreDiskReadings image unread 0 disks readings) (λ image. IsRefusalOfScan image s0.sizes unread refusal)
      (λ image each. record {
        disks = disks;
        readings = readings;
        are = all_read s0 s count disks unread readings scanned all image each;
        answer = is;
      })
      scanned.now,
  scanned.faults,
)

pub scan_refused : (s0 s : State) (count : ℕ) (disks : List Disk) (unread : set.FinSet nat_cmp) (readings : List Reading)
    (refusal : ScanRefusal) → AreScanned s0 count disks unread readings s → length s0.sizes ≤ count
    → IsRefusedBy (decide_scan readings) refusal → IsScanRefused s0 refusal unread s
scan_refused s0 s count disks unread readings refused.NoMemory scanned all is = tt
scan_refused s0 s count disks unread readings (refused.DuplicatePv a b) scanned all is =
    refusal_of s0 s count disks unread readings (refused.DuplicatePv a b) scanned all is
scan_refused s0 s count disks unread readings (refused.NoCopy list) scanned all is =
    refusal_of s0 s count disks unread readings (refused.NoCopy list) scanned all is
scan_refused s0 s count disks unread readings (refused.Unsupported disk) scanned all is =
    refusal_of s0 s count disks unread readings (refused.Unsupported disk) scanned all is
scan_refused s0 s count disks unread readings (refused.TwoGroups a b) scanned all is =
    refusal_of s0 s count disks unread readings (refused.TwoGroups a b) scanned all is
scan_refused s0 s count disks unread readings (refused.Conflict a b seqno) scanned all is =
    refusal_of s0 s count disks unread readings (refused.Conflict a b seqno) scanned all is
scan_refused s0 s count disks unread readings (refused.PvShape disk) scanned all is =
    refusal_of s0 s count disks unread readings (refused.PvShape disk) scanned all is

-- as many were scanned as there are
pub few_scanned : (s0 s : State) (count : ℕ) (disks : List Disk) (unread : set.FinSet nat_cmp) (readings : List Reading)
    → AreScanned s0 count disks unread readings s → count ≤ length s0.sizes → length s0.sizes ≤ 64 → length disks ≤ 64
few_scanned s0 s count disks unread readings scanned all few = omega (arith, scanned.disk_count)

pub some_scanned : (s0 s : State) (count : ℕ) (disks : List Disk) (unread : set.FinSet nat_cmp) (readings : List Reading)
    → AreScanned s0 count disks unread readings s → length s0.sizes ≤ count → 1 ≤ length s0.sizes → 1 ≤ length disks
some_scanned s0 s count disks unread readings scanned all some = omega (arith, scanned.disk_count)

-- memory was wanting before they were all scanned
pub wanting : (s0 s : State) (r : Result Found ScanStopped) → IsErrAnd r (λ stopped. stopped.why ≡ refused.NoMemory)
    → MatchResult r (λ found. IsScan s0 found s) (λ stopped. IsScanRefused s0 stopped.why stopped.unread s)
wanting s0 s (Ok found) is = absurd is
wanting s0 s (Err stopped) is = subst (λ (why : ScanRefusal). IsScanRefused s0 why stopped.unread s) (sym is) tt
