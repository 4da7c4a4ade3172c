-- How a run ends whose disks aren't taken as a scan finds them.
use Rattle.std.specs.Prelude.{◌≡◌, ◌≢◌, ◌↔◌, true, IsTrue}
use Rattle.std.specs.FinSet as set
use Rattle.std.specs.Ordering.{nat_cmp}
use Rattle.scan_rules.specs.declared.decision.ScanRefusal.{ScanRefusal}
use Rattle.scan_rules.specs.declared.decision.ScanRefusal.TheVariants as scan
use Rattle.vg_found.specs.declared.found.Found.{Found}
use Rattle.vg_found.specs.declared.whole.NotWhole.{NotWhole}
use Rattle.vg_found.specs.declared.whole.NotWhole.TheVariants as not_whole
use Rattle.lvm_run.specs.declared.ending.Ending.{Ending}
use Rattle.lvm_run.specs.declared.ending.Ending.TheVariants.{NoMemory, ScanReadFailed, ScanRefused}
use Rattle.lvm_run.specs.declared.disks_refusal.DisksRefusal.TheVariants.{Disks, Partial}

-- for this refusal of the scan, where these disks were unread
abbrev pub IsEndingOf : ScanRefusal → set.FinSet nat_cmp → Ending → Type 0
IsEndingOf why unread NoMemory = why ≡ scan.NoMemory
IsEndingOf why unread (ScanRefused (Disks refusal) whole) = (refusal ≡ why) × (why ≢ scan.NoMemory) × (IsTrue whole ↔ (unread ≡ set.empty))
IsEndingOf why unread _ = ⊥

-- where what was found isn't whole
abbrev pub partial_ending : Found → NotWhole → Ending
partial_ending found (not_whole.ReadFailed pv) = ScanReadFailed pv
partial_ending found not_whole.Partial = ScanRefused (Partial found.missing) true
