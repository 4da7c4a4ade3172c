-- What a scan of any of the disks finds, the others taken as empty: a group whose copies some disk gives, if any.
use Rattle.std.proofs.Common.{◌≡◌, ℕ, ◌+◌, false, List, Option, Some, None, refl, sym, subst, ◌∙◌, arith}
use Rattle.std.specs.Prelude.{slice_get}
use Rattle.std.specs.FinSet as set
use Rattle.std.specs.Ordering.{nat_cmp}
use Rattle.std.proofs.lemmas.Bool.{false≢true}
use Rattle.std.proofs.lemmas.Option.{same_Some}
use Rattle.disk_model.specs.Steps.{Image}
use Rattle.meta_model.specs.declared.group.Group.{Group}
use Rattle.scan_rules.specs.Decision.{AreaReading, Conflict, DuplicatePv, FoundGroup, NoCopy, NoGroup, PvShape, Reading, ScanAnswer}
use Rattle.scan_rules.specs.Decision.{TwoGroups, Unsupported, decide_scan}
use Rattle.vg_found.specs.Whole.{IsWhole}
use Rattle.vg_found.specs.declared.disk.Disk.{Disk}
use Rattle.vg_found.specs.declared.found.Found.{Found}
use Rattle.vg_scan.specs.Readings.{IsDiskReading}
use Rattle.vg_scan.specs.Scans.{IsFoundBy, IsScanOf}
use Rattle.image_scans.proofs.CommitScans.{none_unread}
use Rattle.image_scans.proofs.Decided.{IsFoundWith, found_parts}
use Rattle.image_scans.proofs.AreaReadings.{CopyHas, DisksGive, best_copy_has}
use Rattle.repair_scans.proofs.RepairEnd.{OneReading}
use Rattle.line_history.proofs.EachSetDisks.{OneRead, SetRead, set_read}

-- an area gives no copy but of such a group
abbrev pub GivesSuch : (Group → Type 0) → AreaReading → Type 0
GivesSuch P r = CopyHas (λ group text passed. P group) r

-- where each does, a scan finds such a one
found_such : (P : Group → Type 0) (readings : List Reading) (some : Found) (other : Group) → DisksGive (λ disk. GivesSuch P) readings
    → some.group ≡ Some other → (answer : ScanAnswer) → decide_scan readings ≡ answer → IsFoundBy answer some → P other
found_such P readings some other gives finds (FoundGroup held stale strays missing) is by =
    let parts : IsFoundWith readings held stale strays missing = found_parts readings held stale strays missing is in
    subst P (same_Some held.group other (sym by.0 ∙ finds)) (best_copy_has (λ group text passed. P group) readings gives held parts.best_is)
found_such P readings some other gives finds NoGroup is by =
    absurd (let e : ◌≡◌ {A = Option Group} (Some other) None = sym finds ∙ by.0 in cc)
found_such P readings some other gives finds (DuplicatePv a b) is by = absurd by
found_such P readings some other gives finds (NoCopy rs) is by = absurd by
found_such P readings some other gives finds (Unsupported pv) is by = absurd by
found_such P readings some other gives finds (TwoGroups a b) is by = absurd by
found_such P readings some other gives finds (Conflict a b seqno) is by = absurd by
found_such P readings some other gives finds (PvShape pv) is by = absurd by

module _ (base : Image) (sizes : List ℕ) (found : Found) (whole : IsWhole found) (scan : IsScanOf base sizes found) (image : Image)
    (P : Group → Type 0) where
  -- each disk that is read does in the image, by how it reads in the base
  abbrev pub EachGives : set.FinSet nat_cmp → Type 0
  EachGives unread =
      (k : ℕ) (disk : Disk) (reading : Reading) → slice_get found.disks k ≡ Some disk → slice_get scan.readings k ≡ Some reading
      → IsDiskReading k (base k) disk reading → (disk.contents ≡ None → ⊥)
      → set.contains unread k ≡ false → OneRead k (image k) (GivesSuch P) disk

  module _ (unread : set.FinSet nat_cmp) (each : EachGives unread) where
    disks : SetRead image unread 0 (GivesSuch P) found.disks
    disks =
        set_read image unread (GivesSuch P) base found.unread 0 found.disks scan.readings scan.are.each
        (λ k disk reading at_disk at_reading is_unread reads.
        let zero_less : 0 + k ≡ k = omega arith in
        subst (λ (n : ℕ). set.contains unread n ≡ false → OneRead n (image n) (GivesSuch P) disk) (sym zero_less)
        (each k disk reading at_disk at_reading (subst (λ (n : ℕ). IsDiskReading n (base n) disk reading) zero_less reads)
        (λ none. absurd (false≢true (sym (none_unread found whole (0 + k)) ∙ is_unread.0 none)))))

  pub set_finds : OneReading → (some : Found) (other : Group) → EachGives some.unread → IsScanOf image sizes some → some.group ≡ Some other
      → P other
  set_finds one_reading some other each own finds =
      let s : SetRead image some.unread 0 (GivesSuch P) found.disks = disks some.unread each in
      let same : s.read ≡ own.readings =
      one_reading image sizes some.unread s.there some.disks s.read own.readings
      (record { sizes_is = s.sizes_is ∙ scan.are.sizes_is; each = s.are }) own.are in
      found_such P own.readings some other (subst (DisksGive (λ disk. GivesSuch P)) same s.gives) finds (decide_scan own.readings) refl
      own.answer
