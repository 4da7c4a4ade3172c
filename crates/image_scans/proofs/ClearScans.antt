-- What a scan finds while disks are cleared behind a commit: the version that was committed.
use Rattle.std.proofs.Common.{◌≡◌, ℕ, ◌+◌, ◌/◌, true, false, List, [], get_or, Option, Some, None, ⊎_elim, refl, sym, subst, ◌∙◌, arith}
use Rattle.std.specs.Prelude.{slice_get}
use Rattle.std.specs.FinSet as set
use Rattle.std.proofs.lemmas.Bool.{cases_Bool, true≢false}
use Rattle.std.proofs.lemmas.List.Elements.{filter_passes}
use Rattle.std.proofs.lemmas.Option.{same_Some}
use Rattle.lvm_script.specs.declared.line.Line.{Line}
use Rattle.disk_model.specs.Steps.{Image}
use Rattle.mda_header.specs.declared.header.Locn.{Locn}
use Rattle.mda_ring.specs.declared.area.Area.{Area}
use Rattle.conf_text.specs.Printed.{printed}
use Rattle.meta_model.specs.declared.group.Group.{Group}
use Rattle.meta_print.specs.Layout.{tree_of}
use Rattle.extent_alloc.specs.declared.part.Part.{Part}
use Rattle.scan_rules.specs.Decision.{AreaReading, Copy, Reading, lists}
use Rattle.disk_batch.specs.InTurn.{HasFirstBatches, with_batches}
use Rattle.vg_found.specs.declared.disk.Disk.{Disk}
use Rattle.vg_found.specs.declared.found.Found.{Found}
use Rattle.vg_scan.specs.Readings.{IsDiskReading}
use Rattle.vg_commit.proofs.Disks.{no_area}
use Rattle.vg_commit.specs.SectorReading.{ShowsBy, new_reading}
use Rattle.vg_commit.specs.Showing.{HasBytes, Names, Shows, sectors_of}
use Rattle.group_plan.specs.Judging.{lies_on as is_on, set_of}
use Rattle.group_plan.specs.declared.state.Change.{Change}
use Rattle.group_plan.specs.declared.state.GroupState.{GroupState}
use Rattle.group_plan.specs.declared.backup.Backup.{Backup}
use Rattle.group_ops.specs.Laws.{state_in}
use Rattle.group_ops.specs.Planning.{change_of}
use Rattle.change_batches.specs.Batches.{areas_of}
use Rattle.change_batches.specs.Building.{AreScanned}
use Rattle.change_batches.specs.Laws.{HoldsAfter}
use Rattle.change_batches.proofs.ClearedAreas.{state_scanned}
use Rattle.vg_change.specs.LineBatches.{batches_of, clears_of}
use Rattle.image_scans.specs.Laws.{CanCarryOut, ClearsScan, none_out, version_of}
use Rattle.vg_scan.specs.Versions.{FindsVersion}
use Rattle.image_scans.proofs.ClearedAgain.{any_bare, any_pv, disk_bare, disk_cleared, others_same}
use Rattle.image_scans.proofs.ClearedApart.{ClearsOthers, clears_others}
use Rattle.image_scans.proofs.CommitLine.{all_written, can, copy, disk_reads, ends, fits, front, is_state, lies, settled, shown, where_held}
use Rattle.image_scans.proofs.CommitOnTheWay.{off_disk}
use Rattle.image_scans.proofs.CommitScans.{IsNext}
use Rattle.image_scans.proofs.DiskAgain.{AllAgain, DiskAgain, all_again}
use Rattle.image_scans.proofs.Lines.{LineMakes, line_makes, makes_nothing, makes_pv, makes_version}
use Rattle.image_scans.proofs.CommittedGroup.{MakesGroup}

-- an area whose sectors are as in another image shows the same
shows_same : (image other : Image) (area : Area) (entry : Option Locn) (bytes : List ℕ)
    → ((sector : ℕ) → image area.pv sector ≡ other area.pv sector) → Shows area entry bytes other → Shows area entry bytes image
shows_same image other area entry bytes same shows =
    let at : sectors_of area other ≡ sectors_of area image = λ i sector. sym (same (area.start / 512 + sector)) i in
    record {
      header = subst (λ (sector_at : ℕ → List ℕ). Names area entry (sector_at 0)) at shows.header;
      ring = subst (HasBytes area entry bytes) at shows.ring;
    }

module _ (base : Image) (sizes : List ℕ) (found : Found) (names : List (List ℕ)) (backup : Option Backup) (line : Line) (now : ℕ)
    (given : List Part) (p : CanCarryOut base sizes found names backup line now given) (group : Group)
    (makes : MakesGroup (state_in found names backup) (change_of (state_in found names backup) line now given) group)
    (next : IsNext found.group group) where
  abbrev state : GroupState
  state = state_in found names backup

  abbrev change : Change
  change = change_of state line now given

  abbrev made : AreaReading
  made = Copy group (printed (tree_of group now)) []

  scanned : AreScanned found.disks found.areas
  scanned = state_scanned state (is_state base sizes found names backup line now given p)

  apart : ClearsOthers change
  apart =
      clears_others found names backup p.shape p.whole p.scan.readings (settled base sizes found names backup line now given p) line.number
      line.id now given line.command p.planned p.passes group makes

  -- the image with the commit
  abbrev committed : Image
  committed = with_batches (batches_of state line now given) base

  all_committed : HasFirstBatches (batches_of state line now given) base committed
  all_committed = all_written (batches_of state line now given) base

  module _ (image : Image) (h : HasFirstBatches (clears_of state line now given) committed image) where
    -- a disk of the group isn't cleared
    group_same : (pv : ℕ) → set.contains (set_of change.disk_of) pv ≡ true → (sector : ℕ) → image pv sector ≡ committed pv sector
    group_same pv on sector =
        others_same found.disks found.areas scanned change.cleared p.keeps.clears committed image h pv
        (⊎_elim (λ cleared. absurd (true≢false (sym on ∙ apart pv cleared))) (λ other. other) (cases_Bool (set.contains change.cleared pv)))
        sector

    -- and on any other nothing is committed
    other_same : (pv : ℕ) → set.contains (set_of change.disk_of) pv ≡ false → (sector : ℕ) → committed pv sector ≡ base pv sector
    other_same pv off sector =
        off_disk state (is_state base sizes found names backup line now given p) change group makes (printed (tree_of group now))
        (fits base sizes found names backup line now given p group makes next)
        (can base sizes found names backup line now given p).labels
        (lies base sizes found names backup line now given p).differ base
        (ends base sizes found names backup line now given p group makes next) committed
        (front base sizes found names backup line now given p group makes next committed all_committed) pv off sector

    each_reads : (k : ℕ) (disk : Disk) (reading : Reading) → slice_get found.disks k ≡ Some disk
        → slice_get p.scan.readings k ≡ Some reading → IsDiskReading (0 + k) (base (0 + k)) disk reading
        → DiskAgain (0 + k) (image (0 + k)) (lists group) any_bare made disk reading
    each_reads k disk reading at_disk at_reading is =
        ⊎_elim
        (λ on.
        subst (λ (sector_at : ℕ → List ℕ). DiskAgain (0 + k) sector_at (lists group) any_bare made disk reading)
        (λ i sector. sym (group_same (0 + k) on sector) i)
        (disk_bare made (0 + k) (committed (0 + k)) (lists group) disk reading
        (disk_reads base sizes found names backup line now given p group makes next committed all_committed k disk reading at_disk
        at_reading is)))
        (λ off.
        disk_cleared found.disks found.areas scanned change.cleared p.keeps.clears committed image h base
        (shown base sizes found names backup line now given p) (printed (tree_of group now)) group []
        (copy base sizes found names backup line now given p group makes next)
        (lists group) any_bare (λ id r. refl) (0 + k) (other_same (0 + k) off) disk
        (subst (λ (n : ℕ). slice_get found.disks n ≡ Some disk) (omega arith) at_disk) reading is (any_pv reading.pv))
        (cases_Bool (set.contains (set_of change.disk_of) (0 + k)))

    reads : AllAgain image found.unread 0 (lists group) any_bare made found.disks p.scan.readings
    reads = all_again base image found.unread 0 (lists group) any_bare made found.disks p.scan.readings p.scan.are.each each_reads

    pub while_cleared : FindsVersion sizes image none_out (Some (version_of group change))
    while_cleared =
        let own : List (Area × Option Locn) = areas_of change state.areas in
        let first : Area × Option Locn = get_or own 0 no_area in
        let some = (fits base sizes found names backup line now given p group makes next).committed.some in
        let there : ShowsBy (new_reading (printed (tree_of group now))) committed first =
        (subst (λ (g : Option Group). HoldsAfter g now change state.areas committed) makes.made
        (p.keeps.found base (shown base sizes found names backup line now given p)).areas) 0 no_area some
        in
        let on : set.contains (set_of change.disk_of) first.0.pv ≡ true =
        filter_passes (is_on (set_of change.disk_of)) state.areas 0 no_area some in
        where_held base sizes found names backup line now given p group makes next image any_bare reads
        (shows_same image committed first.0 (new_reading (printed (tree_of group now)) first).0
        (new_reading (printed (tree_of group now)) first).1 (group_same first.0.pv on) there)

-- of any line that commits a group
pub clears_scan : ClearsScan
clears_scan base image sizes found names backup line now given group p commits h =
    by (line_makes base sizes found names backup line now given p)
  where
    change_of_line : Change
    change_of_line = change_of (state_in found names backup) line now given

    other : change_of_line.group ≡ None → ⊥
    other none = let e : ◌≡◌ {A = Option Group} None (Some group) = sym none ∙ commits in cc

    by : LineMakes found (state_in found names backup) (change_of (state_in found names backup) line now given)
        → FindsVersion sizes image none_out (Some (version_of group (change_of (state_in found names backup) line now given)))
    by (makes_version c) =
        subst (λ (g : Group). FindsVersion sizes image none_out
        (Some (version_of g (change_of (state_in found names backup) line now given))))
        (same_Some c.group group (sym c.makes.made ∙ commits))
        (while_cleared base sizes found names backup line now given p c.group c.makes c.next image h)
    by (makes_pv m) = absurd (other m.none)
    by (makes_nothing none labels) = absurd (other none)
