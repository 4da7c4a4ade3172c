-- Scans that were refused, or that failed nowhere.
use Rattle.std.proofs.Common.{◌≡◌, ◌≢◌, refl, ap, ◌∙◌}
use Rattle.std.specs.FinSet as set
use Rattle.std.specs.Ordering.{nat_cmp}
use Rattle.disk_model.specs.Faults.{HasSameFaults}
use Rattle.disk_model.specs.State.{State}
use Rattle.scan_rules.specs.declared.decision.ScanRefusal.{ScanRefusal}
use Rattle.scan_rules.specs.declared.decision.ScanRefusal.TheVariants as refusals
use Rattle.vg_scan.specs.Scans.{FailedOn, HoldsNow, IsRefusalOfScan, IsScanRefused}
use Rattle.lvm_run.specs.Scan.{IsRefusedFor}
use Rattle.lvm_run.proofs.ChangedDisks.{holds_now_weaker}

-- a refusal of the scan, unless memory was wanting
refused_holds : (old new : State) (why : ScanRefusal) (unread : set.FinSet nat_cmp) → why ≢ refusals.NoMemory
    → IsScanRefused old why unread new
    → HoldsNow old.told (λ image. IsRefusalOfScan image old.sizes unread why) × FailedOn unread old new
refused_holds old new refusals.NoMemory unread some is = absurd (some refl)
refused_holds old new (refusals.DuplicatePv first second) unread some is = is
refused_holds old new (refusals.NoCopy refused) unread some is = is
refused_holds old new (refusals.Unsupported pv) unread some is = is
refused_holds old new (refusals.TwoGroups first second) unread some is = is
refused_holds old new (refusals.Conflict first second seqno) unread some is = is
refused_holds old new (refusals.PvShape pv) unread some is = is

pub refused_is : (old new : State) (why : ScanRefusal) (unread : set.FinSet nat_cmp) → why ≢ refusals.NoMemory
    → IsScanRefused old why unread new
    → HoldsNow old.told (λ image. IsRefusedFor image old.sizes unread why) × FailedOn unread old new
refused_is old new why unread some is =
    let r = refused_holds old new why unread some is in (
      holds_now_weaker old.told (λ image. IsRefusalOfScan image old.sizes unread why) (λ image. IsRefusedFor image old.sizes unread why)
          (λ image h. (some, h)) r.0,
      r.1,
    )

-- where no disk is unread nothing failed
pub none_failed_on : (unread : set.FinSet nat_cmp) (old new : State) → unread ≡ set.empty → FailedOn unread old new → HasSameFaults old new
none_failed_on unread old new none failed pv =
    failed.same pv (ap (λ (s : set.FinSet nat_cmp). set.contains s pv) none ∙ set.contains-empty nat_cmp pv)
