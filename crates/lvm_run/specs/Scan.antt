-- The disks are flushed, for a command that changes something, and looked at.
use Rattle.std.specs.Prelude.{◌≡◌, ◌≢◌, ◌<◌, ◌↔◌, ℕ, Bool, IsTrue, List, [], ◌∷◌, length, map, Some, Result, Ok, Err}
use Rattle.std.specs.FinSet as set
use Rattle.std.specs.Ordering.{nat_cmp}
use Rattle.disk_model.specs.Faults.{HasSameFaults, IsLastFault}
use Rattle.disk_model.specs.Order.{HasFlushed, WritesNothing}
use Rattle.disk_model.specs.Since.{spans_read}
use Rattle.disk_model.specs.State.{State}
use Rattle.disk_model.specs.Steps.{Image, IsSame, Reading, Flushing, Step, Submitted, Record, now_after, steps_on}
use Rattle.scan_rules.specs.declared.decision.ScanRefusal.{ScanRefusal}
use Rattle.scan_rules.specs.declared.decision.ScanRefusal.TheVariants as refusals
use Rattle.vg_found.specs.declared.disk.Disk.{Disk}
use Rattle.vg_found.specs.declared.found.Found.{Found}
use Rattle.vg_found.specs.declared.whole.NotWhole.{NotWhole}
use Rattle.vg_found.specs.Whole.{IsNotWhole, IsWhole, first_of}
use Rattle.vg_found.specs.Shape.{HasShape}
use Rattle.vg_scan.specs.Scans.{AreFewReads, FailedOn, HoldsNow, IsRefusalOfScan, IsScanOf}
use Rattle.lvm_run.specs.CommandSpec.{Scanned, Finds, Refuses, Lacks}
use Rattle.lvm_run.specs.ScanEndings.{partial_ending}
use Rattle.lvm_run.specs.declared.ending.Ending.{Ending}
use Rattle.lvm_run.specs.declared.ending.Ending.TheVariants.{NoMemory, OpenFailed, ScanReadFailed, ScanRefused}
use Rattle.lvm_run.specs.declared.disks_refusal.DisksRefusal.TheVariants.{Disks, Partial}

-- a scan of disks of these sizes is refused for this, and not for want of memory, which says nothing of them
abbrev pub IsRefusedFor : Image → List ℕ → set.FinSet nat_cmp → ScanRefusal → Type 0
IsRefusedFor image sizes unread refusal = (refusal ≢ refusals.NoMemory) × IsRefusalOfScan image sizes unread refusal

-- what a scan of disks of these sizes finds, whatever is missing and whichever are unread
abbrev pub FindsAnything : Image → List ℕ → set.FinSet nat_cmp → Scanned → Type 0
FindsAnything image sizes unread (Finds (Some found)) = IsScanOf image sizes found × (found.unread ≡ unread)
FindsAnything image sizes unread (Refuses (Disks refusal)) = IsRefusedFor image sizes unread refusal
FindsAnything image sizes unread _ = ⊥

-- the same where the group has to be whole: with a physical volume missing it is refused, and with a disk unread it isn't
-- taken
abbrev pub FindsWhole : Image → List ℕ → set.FinSet nat_cmp → Scanned → Type 0
FindsWhole image sizes unread (Finds (Some found)) = IsScanOf image sizes found × (found.unread ≡ unread) × IsWhole found
FindsWhole image sizes unread (Refuses (Partial ids)) =
    (found : Found) × IsScanOf image sizes found × (found.unread ≡ unread) × (unread ≡ set.empty) × (ids ≡ found.missing) × (ids ≢ [])
FindsWhole image sizes unread (Refuses (Disks refusal)) = IsRefusedFor image sizes unread refusal
FindsWhole image sizes unread (Lacks pv) =
    (found : Found) × IsScanOf image sizes found × (found.unread ≡ unread) × (first_of unread ≡ Some pv)
FindsWhole image sizes unread _ = ⊥

-- before each submission of a read in these steps, a flush of each of so many disks had completed well in them
abbrev pub FlushesBeforeReads : ℕ → List Step → Type 0
FlushesBeforeReads disks [] = Unit {0}
FlushesBeforeReads disks (Submitted tag (Reading span) ∷ steps) =
    ((pv : ℕ) → pv < disks → HasFlushed pv steps) × FlushesBeforeReads disks steps
FlushesBeforeReads disks (_ ∷ steps) = FlushesBeforeReads disks steps

-- disks of these sizes were flushed, and then read a little; where it doesn't pass, as far as it came
pub record OpensDisks (sizes : List ℕ) (old : Record) (passes : Bool) (new : Record) : Type 0 where
  pub since : List Step
  pub steps : new ≡ steps_on since old
  pub nothing : WritesNothing since
  pub same : IsSame (now_after new.opened new.steps) (now_after old.opened old.steps)
  pub flushed : IsTrue passes → (pv : ℕ) → pv < length sizes → HasFlushed pv since
  pub ordered : FlushesBeforeReads (length sizes) since
  pub few : AreFewReads (now_after old.opened old.steps) sizes (spans_read since)

-- the disks were flushed and scanned, and this was found, which is whole
pub record IsOpened (old : State) (found : Found) (new : State) : Type 0 where
  pub sizes : map (λ (disk : Disk). disk.sectors) found.disks ≡ old.sizes
  pub now : HoldsNow old.told (λ image. IsScanOf image old.sizes found)
  pub faults : HasSameFaults old new
  pub shape : HasShape found
  pub whole : IsWhole found

-- reads failed on these disks, and on none where it is whole
pub record IsUnreadBy (whole : Bool) (unread : set.FinSet nat_cmp) (old new : State) : Type 0 where
  pub failed : FailedOn unread old new
  pub all : IsTrue whole ↔ (unread ≡ set.empty)

-- why the disks aren't taken: memory was wanting, a flush failed, or what the scan came to
abbrev pub IsOpenCause : State → State → Ending → Type 0
IsOpenCause old new NoMemory = Unit {0}
IsOpenCause old new (OpenFailed pv) = IsLastFault old new pv (Flushing pv)
IsOpenCause old new (ScanReadFailed pv) =
    (unread : set.FinSet nat_cmp) × FailedOn unread old new × HoldsNow old.told (λ image. FindsWhole image old.sizes unread (Lacks pv))
IsOpenCause old new (ScanRefused refusal whole) =
    (unread : set.FinSet nat_cmp) × IsUnreadBy whole unread old new
    × HoldsNow old.told (λ image. FindsWhole image old.sizes unread (Refuses refusal))
IsOpenCause old new _ = ⊥

-- what becomes of what a scan found: it is taken where it is whole, and else refused
abbrev pub IsTakenAsFound : Found → Result Found Ending → Type 0
IsTakenAsFound found (Ok taken) = (taken ≡ found) × IsWhole found
IsTakenAsFound found (Err ending) = (why : NotWhole) × IsNotWhole found why × (ending ≡ partial_ending found why)
