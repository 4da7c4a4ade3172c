-- Once a commit is done, and disks are cleared behind it, each copy on any disk is that of the new group, so no set of disks finds
-- another.
use Rattle.std.proofs.Common.{◌≡◌, ◌≢◌, ◌<◌, ℕ, ◌+◌, true, false, List, [], length, get_or, Option, Some, None, ⊎_elim, refl, sym, ap}
use Rattle.std.proofs.Common.{subst, ◌∙◌, arith}
use Rattle.std.specs.Prelude.{All, Contains, slice_get}
use Rattle.std.specs.FinSet as set
use Rattle.std.specs.Ordering.{nat_cmp}
use Rattle.std.proofs.lemmas.Bool.{cases_Bool, false_from_ne_true, true≢false}
use Rattle.std.proofs.lemmas.List.{length-map}
use Rattle.std.proofs.lemmas.List.Elements.{All-contains, All-from_recursion, recursion_from_All}
use Rattle.std.proofs.lemmas.Option.{same_Some, slice_get_within}
use Rattle.lvm_script.specs.declared.line.Line.{Line}
use Rattle.disk_model.specs.Steps.{Image}
use Rattle.mda_header.specs.declared.header.Locn.{Locn}
use Rattle.mda_ring.specs.declared.area.Area.{Area}
use Rattle.conf_text.specs.Printed.{printed}
use Rattle.meta_model.specs.declared.group.Group.{Group}
use Rattle.meta_print.specs.Layout.{tree_of}
use Rattle.extent_alloc.specs.declared.part.Part.{Part}
use Rattle.scan_rules.specs.Decision.{AreaReading, Copy, Reading, lists}
use Rattle.disk_batch.specs.InTurn.{HasFirstBatches, with_batches}
use Rattle.disk_contents.specs.Standing.{area_on}
use Rattle.disk_contents.specs.declared.contents.AreaFound.{AreaFound}
use Rattle.vg_found.specs.Disks.{areas_on, held_area}
use Rattle.vg_found.specs.declared.disk.Disk.{Disk}
use Rattle.vg_found.specs.declared.found.Found.{Found}
use Rattle.vg_scan.specs.Readings.{IsDiskReading}
use Rattle.vg_scan.specs.Scans.{IsScanOf}
use Rattle.vg_scan.specs.Texts.{IsCopyOf}
use Rattle.vg_commit.specs.SectorReading.{ShowsBy, new_reading}
use Rattle.group_plan.specs.Judging.{lies_on as is_on, set_of}
use Rattle.group_plan.specs.declared.backup.Backup.{Backup}
use Rattle.group_plan.specs.declared.state.Change.{Change}
use Rattle.group_plan.specs.declared.state.GroupState.{GroupState}
use Rattle.group_plan.proofs.Passed.{absent}
use Rattle.group_ops.specs.Laws.{state_in}
use Rattle.group_ops.specs.Planning.{change_of}
use Rattle.change_batches.specs.Building.{AreScanned}
use Rattle.change_batches.specs.Laws.{HoldsAfter}
use Rattle.change_batches.proofs.ClearedAreas.{state_scanned}
use Rattle.change_batches.proofs.KeptImages.{of_passed}
use Rattle.vg_change.specs.LineBatches.{batches_of, clears_of}
use Rattle.image_scans.proofs.ClearedAgain.{others_same}
use Rattle.image_scans.proofs.ClearedApart.{ClearsOthers, clears_others}
use Rattle.image_scans.proofs.CommitCommands.{Commits}
use Rattle.image_scans.proofs.CommitLine.{all_written, can, copy, disk_reads, ends, fits, front, is_state, lies, settled, shown}
use Rattle.image_scans.proofs.CommitOnTheWay.{off_disk}
use Rattle.image_scans.proofs.DiskAgain.{DiskAgain}
use Rattle.image_scans.proofs.FoundAreas.{entry_kept, of_held}
use Rattle.image_scans.proofs.AreaReadings.{IsNone, PvGives, pv_weaker}
use Rattle.image_scans.proofs.Lines.{LineMakes, line_makes, makes_nothing, makes_pv, makes_version}
use Rattle.image_scans.specs.Laws.{CanCarryOut}
use Rattle.repair_scans.proofs.RepairEnd.{OneReading}
use Rattle.line_history.proofs.EachSetAreas.{GivesOnly, IsShown, pv_only}
use Rattle.line_history.proofs.EachSetCleared.{cleared_gives}
use Rattle.line_history.proofs.EachSetDisks.{OneRead, read_again, read_same}
use Rattle.line_history.proofs.EachSetListed.{nothing_off}
use Rattle.line_history.proofs.EachSetScan.{EachGives, set_finds}
use Rattle.line_history.specs.EachSet.{EachMemberFinds}

none_given : (group : Group) (r : AreaReading) → IsNone r → GivesOnly group r
none_given group r is = subst (GivesOnly group) (sym is) tt

module _ (base : Image) (sizes : List ℕ) (found : Found) (names : List (List ℕ)) (backup : Option Backup) (line : Line) (now : ℕ)
    (given : List Part) (p : CanCarryOut base sizes found names backup line now given) where
  abbrev state : GroupState
  state = state_in found names backup

  abbrev change : Change
  change = change_of state line now given

  -- the image with the commit, and the one with the disks cleared too
  abbrev committed : Image
  committed = with_batches (batches_of state line now given) base

  abbrev last : Image
  last = with_batches (clears_of state line now given) committed

  all_committed : HasFirstBatches (batches_of state line now given) base committed
  all_committed = all_written (batches_of state line now given) base

  scanned : AreScanned found.disks found.areas
  scanned = state_scanned state (is_state base sizes found names backup line now given p)

  all_cleared : HasFirstBatches (clears_of state line now given) committed last
  all_cleared = all_written (clears_of state line now given) committed

  -- on a disk that isn't cleared nothing is written behind the commit
  uncleared_same : (image : Image) → HasFirstBatches (clears_of state line now given) committed image → (k : ℕ)
      → set.contains change.cleared k ≡ false → (sector : ℕ) → image k sector ≡ committed k sector
  uncleared_same image way k uncleared sector =
      others_same found.disks found.areas scanned change.cleared p.keeps.clears committed image way k uncleared sector

  module _ (c : Commits found state change) where
    abbrev group : Group
    group = c.group

    abbrev text : List ℕ
    text = printed (tree_of group now)

    abbrev new : AreaReading
    new = Copy group text []

    copy_is : IsCopyOf text group []
    copy_is = copy base sizes found names backup line now given p group c.makes c.next

    -- each area on a disk of the group shows the new text
    abbrev IsNew : Area × Option Locn → Type 0
    IsNew held = is_on (set_of change.disk_of) held ≡ true → ShowsBy (new_reading text) committed held

    all_new : All IsNew state.areas
    all_new =
        of_passed (is_on (set_of change.disk_of)) (ShowsBy (new_reading text) committed) state.areas
        (subst (λ (g : Option Group). HoldsAfter g now change state.areas committed) c.makes.made
        (p.keeps.found base (shown base sizes found names backup line now given p)).areas)

    apart : ClearsOthers change
    apart =
        clears_others found names backup p.shape p.whole p.scan.readings (settled base sizes found names backup line now given p)
        line.number line.id now given line.command p.planned p.passes group c.makes

    module _ (k : ℕ) (disk : Disk) (reading : Reading) (at_disk : slice_get found.disks k ≡ Some disk)
        (at_reading : slice_get p.scan.readings k ≡ Some reading) (reads : IsDiskReading k (base k) disk reading)
        (is_read : disk.contents ≡ None → ⊥) where
      -- ---- a disk of the group

      again : DiskAgain k (committed k) (lists group) (λ id r. false) new disk reading
      again =
          let zero_less : 0 + k ≡ k = omega arith in
          subst (λ (n : ℕ). DiskAgain n (committed n) (lists group) (λ id r. false) new disk reading) zero_less
          (disk_reads base sizes found names backup line now given p group c.makes c.next committed all_committed k disk reading at_disk
          at_reading (subst (λ (n : ℕ). IsDiskReading n (base n) disk reading) (sym zero_less) reads))

      module _ (on : set.contains (set_of change.disk_of) k ≡ true) where
        shown_on : All (IsShown text k committed) (areas_on disk.contents)
        shown_on n d within held is =
            let area : AreaFound = get_or (areas_on disk.contents) n d in
            let here : held.0.pv ≡ k = ap (λ (a : Area). a.pv) (entry_kept (area_on k area.area) area.entry held is) in
            let zero_less : 0 + k ≡ k = omega arith in
            of_held IsNew 0 found.disks (subst (All IsNew) (is_state base sizes found names backup line now given p).areas all_new) k disk
            at_disk n d within held (ap (λ (m : ℕ). held_area m area) zero_less ∙ is)
            (ap (set.contains (set_of change.disk_of)) here ∙ on)

        gives : PvGives (GivesOnly group) again.read.pv
        gives =
            pv_only text group copy_is k base committed (lists group) (λ id r. false) new disk.contents again.there.contents
            again.there.sectors reading.pv again.read.pv reads.pv_is again.again again.areas_is again.is.contents again.is.pv_is
            (recursion_from_All (IsShown text k committed) (areas_on disk.contents) shown_on)

        uncleared : set.contains change.cleared k ≡ false
        uncleared = false_from_ne_true (set.contains change.cleared k) (λ cleared. true≢false (sym on ∙ apart k cleared))

        -- also while others are cleared
        on_group : (image : Image) → HasFirstBatches (clears_of state line now given) committed image
            → OneRead k (image k) (GivesOnly group) disk
        on_group image way =
            subst (λ (sector_at : ℕ → List ℕ). OneRead k sector_at (GivesOnly group) disk)
            (λ i sector. sym (uncleared_same image way k uncleared sector) i)
            (read_again k (committed k) (GivesOnly group) (lists group) (λ id r. false) new disk reading again is_read gives)

      -- ---- any other

      module _ (off : set.contains (set_of change.disk_of) k ≡ false) where
        other_same : (sector : ℕ) → committed k sector ≡ base k sector
        other_same sector =
            off_disk state (is_state base sizes found names backup line now given p) change group c.makes text
            (fits base sizes found names backup line now given p group c.makes c.next)
            (can base sizes found names backup line now given p).labels
            (lies base sizes found names backup line now given p).differ base
            (ends base sizes found names backup line now given p group c.makes c.next) committed
            (front base sizes found names backup line now given p group c.makes c.next committed all_committed) k off sector

        on_cleared : set.contains change.cleared k ≡ true → OneRead k (last k) (GivesOnly group) disk
        on_cleared cleared =
            cleared_gives found.disks found.areas scanned change.cleared p.keeps.clears base committed
            (shown base sizes found names backup line now given p) text group [] copy_is k other_same disk at_disk reading reads cleared
            (GivesOnly group) tt is_read

        on_other : set.contains change.cleared k ≡ false → OneRead k (last k) (GivesOnly group) disk
        on_other uncleared =
            read_same k (base k) (last k) (GivesOnly group) disk reading
            (λ sector. uncleared_same last all_cleared k uncleared sector ∙ other_same sector) reads is_read
            (pv_weaker IsNone (GivesOnly group) (none_given group) reading.pv
            (nothing_off base sizes found names backup line now given p k disk reading at_disk at_reading reads group c.makes.made off
            uncleared))

      each : OneRead k (last k) (GivesOnly group) disk
      each =
          ⊎_elim (λ on. on_group on last all_cleared)
          (λ off. ⊎_elim (on_cleared off) (on_other off) (cases_Bool (set.contains change.cleared k)))
          (cases_Bool (set.contains (set_of change.disk_of) k))

    all_give : (unread : set.FinSet nat_cmp) → EachGives base sizes found p.whole p.scan last (λ other. other ≡ group) unread
    all_give unread k disk reading at_disk at_reading reads is_read read = each k disk reading at_disk at_reading reads is_read

    -- those of the group do on the way too
    members_give : (image : Image) → HasFirstBatches (clears_of state line now given) committed image → (unread : set.FinSet nat_cmp)
        → ((k : ℕ) → k < length found.disks → set.contains unread k ≡ false → set.contains (set_of change.disk_of) k ≡ true)
        → EachGives base sizes found p.whole p.scan image (λ other. other ≡ group) unread
    members_give image way unread members k disk reading at_disk at_reading reads is_read read =
        on_group k disk reading at_disk at_reading reads is_read (members k (slice_get_within found.disks k disk at_disk) read) image way

-- a line that commits a group
pub commit_finds : OneReading → (base : Image) (sizes : List ℕ) (found : Found) (names : List (List ℕ)) (backup : Option Backup)
    (line : Line) (now : ℕ) (given : List Part) → CanCarryOut base sizes found names backup line now given → (group : Group)
    → (change_of (state_in found names backup) line now given).group ≡ Some group → (some : Found) (other : Group)
    → IsScanOf (with_batches (clears_of (state_in found names backup) line now given)
    (with_batches (batches_of (state_in found names backup) line now given) base)) sizes some → some.group ≡ Some other → other ≡ group
commit_finds one_reading base sizes found names backup line now given p group is some other scan finds =
    by (line_makes base sizes found names backup line now given p)
  where
    by : LineMakes found (state_in found names backup) (change_of (state_in found names backup) line now given) → other ≡ group
    by (makes_version c) =
        set_finds base sizes found p.whole p.scan (last base sizes found names backup line now given p) (λ own. own ≡ c.group) one_reading
        some other (all_give base sizes found names backup line now given p c some.unread) scan finds
        ∙ same_Some c.group group (sym c.makes.made ∙ is)
    by (makes_pv m) = absurd (let e : ◌≡◌ {A = Option Group} None (Some group) = sym m.none ∙ is in cc)
    by (makes_nothing none labels) = absurd (let e : ◌≡◌ {A = Option Group} None (Some group) = sym none ∙ is in cc)

-- one of these numbers is in their set
member_there : (numbers : List ℕ) (k : ℕ) → Contains numbers k → set.contains (set_of numbers) k ≡ true
member_there numbers k has =
    ⊎_elim (λ there. there)
    (λ off. absurd (All-contains (λ n. n ≢ k) numbers k (All-from_recursion (λ n. n ≢ k) numbers (absent set.empty numbers k off).1) has
    refl))
    (cases_Bool (set.contains (set_of numbers) k))

-- the disks of the group, also while others are cleared
pub members_find : OneReading → EachMemberFinds
members_find one_reading base image sizes found names backup line now given group p is way some other scan members finds =
    by (line_makes base sizes found names backup line now given p)
  where
    change : Change
    change = change_of (state_in found names backup) line now given

    are_members : (k : ℕ) → k < length found.disks → set.contains some.unread k ≡ false → set.contains (set_of change.disk_of) k ≡ true
    are_members k within read =
        let many : length found.disks ≡ length sizes =
        sym (length-map found.disks (λ (d : Disk). d.sectors)) ∙ ap (λ (l : List ℕ). length l) p.scan.are.sizes_is in
        member_there change.disk_of k (members k (omega (arith, within, many)) read)

    by : LineMakes found (state_in found names backup) change → other ≡ group
    by (makes_version c) =
        set_finds base sizes found p.whole p.scan image (λ own. own ≡ c.group) one_reading some other
        (members_give base sizes found names backup line now given p c image way some.unread are_members) scan finds
        ∙ same_Some c.group group (sym c.makes.made ∙ is)
    by (makes_pv m) = absurd (let e : ◌≡◌ {A = Option Group} None (Some group) = sym m.none ∙ is in cc)
    by (makes_nothing none labels) = absurd (let e : ◌≡◌ {A = Option Group} None (Some group) = sym none ∙ is in cc)
