-- A disk that is cleared gives nothing.
use Rattle.std.proofs.Common.{◌≡◌, ℕ, ◌+◌, true, false, List, Option, Some, None, refl, sym, ap, subst, ◌∙◌, arith}
use Rattle.std.specs.Prelude.{slice_get}
use Rattle.std.specs.FinSet as set
use Rattle.std.specs.List.{AllByRecursion as Each}
use Rattle.std.specs.Ordering.{nat_cmp}
use Rattle.disk_model.specs.Steps.{Image}
use Rattle.mda_header.specs.declared.header.Locn.{Locn}
use Rattle.mda_ring.specs.declared.area.Area.{Area}
use Rattle.meta_model.specs.declared.group.Group.{Group}
use Rattle.scan_rules.specs.Decision.{AreaReading, Copy, HoldsNone, Reading}
use Rattle.disk_batch.specs.InTurn.{with_batches}
use Rattle.vg_found.specs.Disks.{areas_on}
use Rattle.vg_found.specs.declared.disk.Disk.{Disk}
use Rattle.vg_scan.specs.Readings.{IsDiskReading}
use Rattle.vg_scan.specs.Texts.{IsCopyOf}
use Rattle.change_batches.specs.Batches.{clear_batches}
use Rattle.change_batches.specs.Building.{AreScanned}
use Rattle.change_batches.specs.Laws.{ClearsImages, ShowsEntries}
use Rattle.image_scans.proofs.ClearedAgain.{any_bare, any_pv, disk_cleared}
use Rattle.image_scans.proofs.CommitLine.{all_written}
use Rattle.image_scans.proofs.DiskAgain.{DiskAgain}
use Rattle.image_scans.proofs.AreaReadings.{IsNone, pv_weaker}
use Rattle.image_scans.proofs.RemovalEnds.{IsEmptied, disk_emptied, pv_emptied}
use Rattle.line_history.proofs.EachSetDisks.{OneRead, read_again}

module _ (disks : List Disk) (areas : List (Area × Option Locn)) (scanned : AreScanned disks areas) (cleared : set.FinSet nat_cmp)
    (clears : ClearsImages cleared disks areas) (base mid : Image) (shown : ShowsEntries areas base)
    (text : List ℕ) (group : Group) (passed : List (List ℕ)) (copy : IsCopyOf text group passed) (pv : ℕ)
    (same : (sector : ℕ) → mid pv sector ≡ base pv sector) (disk : Disk) (there : slice_get disks pv ≡ Some disk)
    (reading : Reading) (reads : IsDiskReading pv (base pv) disk reading) (on : set.contains cleared pv ≡ true) where
  abbrev last : Image
  last = with_batches (clear_batches cleared disks areas) mid

  abbrev new : AreaReading
  new = Copy group text passed

  again : DiskAgain pv (last pv) (λ id. false) any_bare new disk reading
  again =
      disk_cleared disks areas scanned cleared clears mid last (all_written (clear_batches cleared disks areas) mid) base shown text group
      passed copy (λ id. false) any_bare (λ id r. refl) pv same disk there reading reads
      (any_pv reading.pv)

  emptied : Each (IsEmptied pv (last pv)) (areas_on disk.contents)
  emptied =
      let zero_less : 0 + pv ≡ pv = omega arith in
      subst (λ (n : ℕ). Each (IsEmptied n (last n)) (areas_on disk.contents)) zero_less
      (disk_emptied areas cleared last (clears.done mid).headers disks scanned.held pv disk there
      (ap (set.contains cleared) zero_less ∙ on))

  pub cleared_gives : (P : AreaReading → Type 0) → P HoldsNone → (disk.contents ≡ None → ⊥) → OneRead pv (last pv) P disk
  cleared_gives P none is_read =
      read_again pv (last pv) P (λ id. false) any_bare new disk reading again is_read
      (pv_weaker IsNone P (λ r is. subst P (sym is) none) again.read.pv
      (pv_emptied new pv (base pv) (last pv) again.there.sectors disk.contents again.there.contents reading.pv again.read.pv reads.pv_is
      again.is.pv_is again.is.contents again.areas_is again.again emptied))
