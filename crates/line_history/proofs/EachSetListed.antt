-- A disk to which a line commits nothing and that it doesn't clear gave nothing: the group that was found doesn't list it.
use Rattle.std.proofs.Common.{◌≡◌, ◌≢◌, ℕ, zero, suc, true, false, List, [], ◌∷◌, ◌++◌, Option, Some, None, refl, sym, ap, subst, ◌∙◌}
use Rattle.std.specs.Prelude.{IfSome, slice_get, slice_index}
use Rattle.std.specs.FinSet as set
use Rattle.std.specs.List.{AllByRecursion as Each, remove}
use Rattle.std.specs.Option.{option_map_or}
use Rattle.std.proofs.lemmas.Bool.{false_from_ne_true, true≢false}
use Rattle.std.proofs.lemmas.List.Elements.{All-from_recursion}
use Rattle.std.proofs.lemmas.Option.{same_Some}
use Rattle.command_table.specs.declared.command.Command.{Command}
use Rattle.command_table.specs.declared.command.Command.TheVariants.{Lvcreate, Vgreduce}
use Rattle.line_answers.specs.declared.op_refusal.OpRefusal.{OpRefusal}
use Rattle.line_answers.specs.declared.op_refusal.OpRefusal.TheVariants.{GroupStands}
use Rattle.lvm_script.specs.declared.line.Line.{Line}
use Rattle.disk_model.specs.Steps.{Image}
use Rattle.pv_header.specs.declared.header.PvHeader.{PvHeader}
use Rattle.meta_model.specs.declared.group.Group.{Group}
use Rattle.extent_alloc.specs.declared.part.Part.{Part}
use Rattle.scan_rules.specs.Decision.{AreaReading, Copy, Found as PvOf, HoldsNone, Reading, Refused, is_listed, is_something, lists}
use Rattle.disk_contents.specs.declared.contents.PvFound.{PvFound}
use Rattle.disk_contents.specs.declared.contents.PvFound.TheVariants.{NoLabel, NoHeader, Whole}
use Rattle.vg_found.specs.Disks.{disk_with, disks_of, header_on}
use Rattle.vg_found.specs.Shape.{HasShape}
use Rattle.vg_found.specs.declared.disk.Disk.{Disk}
use Rattle.vg_found.specs.declared.found.Found.{Found}
use Rattle.vg_scan.specs.Readings.{IsDiskReading, IsPvReading}
use Rattle.group_plan.proofs.Disks.{disk_with_own}
use Rattle.group_plan.proofs.Passed.{absent}
use Rattle.group_plan.specs.Added.{added_of, disks_added}
use Rattle.group_plan.specs.Judging.{first_refusal, set_of}
use Rattle.group_plan.specs.declared.backup.Backup.{Backup}
use Rattle.group_plan.specs.declared.state.Change.{Change}
use Rattle.group_plan.specs.declared.state.GroupState.{GroupState}
use Rattle.vg_plans.proofs.Leaving.{LeavesNext, leaves_next}
use Rattle.vg_plans.proofs.Restoring.{Restores, restores}
use Rattle.vg_plans.specs.Vgextend.{extend_by}
use Rattle.vg_plans.specs.Vgcfgrestore.{vgcfgrestore_change, vgcfgrestore_rows}
use Rattle.lv_plans.specs.Allocating.{Takes}
use Rattle.group_ops.proofs.NextVersions.{append_nil, by_kind, commits_next, is_next}
use Rattle.group_ops.specs.Laws.{state_in}
use Rattle.group_ops.specs.Planning.{IsBackupOf, IsPlanned, asks_of, change_of, refusal_of}
use Rattle.change_batches.proofs.DiskSets.{of_set}
use Rattle.image_scans.proofs.CommitLine.{settled}
use Rattle.image_scans.proofs.AreaReadings.{IsNone, IsSettled, PvGives, pv_weaker}
use Rattle.image_scans.proofs.ReadingShapes.{gives_at, gives_on}
use Rattle.image_scans.proofs.RemovalEnds.{disk_among}
use Rattle.image_scans.proofs.SettledBase.{IsSettledScan, settled_none, settled_some}
use Rattle.image_scans.specs.Laws.{CanCarryOut}
use Rattle.line_history.proofs.EachSetRestored.{still_listed}
use Rattle.line_history.proofs.ReadBackups.{some_backup}

none_found : (rows : List (Option OpRefusal)) (o : Option Group)
    → first_refusal (option_map_or (λ (group : Group). Some (GroupStands group.name) ∷ []) o rows) ≡ None → o ≡ None
none_found rows None passes = refl
none_found rows (Some group) passes = absurd cc

-- ---- a disk that is none of some disks

front_apart : (k : ℕ) (disks more : List ℕ) → Each (λ n. n ≢ k) (disks ++ more) → Each (λ n. n ≢ k) disks
front_apart k [] more apart = tt
front_apart k (n ∷ disks) more apart = (apart.0, front_apart k disks more apart.1)

-- of all but one, nor that one
both_apart : (k : ℕ) (disks : List ℕ) (number : ℕ) → Each (λ n. n ≢ k) (remove disks number) → slice_index disks number ≢ k
    → Each (λ n. n ≢ k) disks
both_apart k [] number apart other = tt
both_apart k (n ∷ disks) zero apart other = (other, apart)
both_apart k (n ∷ disks) (suc number) apart other = (apart.0, both_apart k disks number apart.1 other)

-- ---- what the group that was found lists

module _ (found : Found) (names : List (List ℕ)) (backup : Option Backup) (shape : HasShape found) (old : Group)
    (there : found.group ≡ Some old) where
  abbrev state : GroupState
  state = state_in found names backup

  -- the id of a disk that is none of its disks isn't listed
  pub apart_unlisted : (k : ℕ) (header : PvHeader) → disk_with found.disks header.id ≡ k → Each (λ n. n ≢ k) found.disk_of
      → lists old header.id ≡ false
  apart_unlisted k header at apart =
      let listed_are : found.disk_of ≡ disks_of old found.disks =
      subst (λ (o : Option Group). IfSome o (λ g. found.disk_of ≡ disks_of g found.disks)) there shape.disk_of in
      false_from_ne_true (lists old header.id)
      (λ listed. of_set (λ n. n ≢ k) found.disk_of (All-from_recursion (λ n. n ≢ k) found.disk_of apart) k
      (disk_among old found.disks found.disk_of listed_are k header at listed) refl)

  -- nor is that of a disk to which the change commits nothing, and that it doesn't clear
  abbrev LosesNone : Change → Type 0
  LosesNone change =
      (k : ℕ) (header : PvHeader) → disk_with found.disks header.id ≡ k → set.contains (set_of change.disk_of) k ≡ false
      → set.contains change.cleared k ≡ false → lists old header.id ≡ false

  -- where it has the disks that were found, and more
  with_front : (change : Change) (more : List ℕ) → change.disk_of ≡ found.disk_of ++ more → LosesNone change
  with_front change more is k header at off uncleared =
      apart_unlisted k header at (front_apart k found.disk_of more (subst (Each (λ n. n ≢ k)) is (absent set.empty change.disk_of k off).1))

  extends : (pvs : List (List ℕ)) (o : Option Group) → found.group ≡ o → LosesNone (extend_by state o pvs)
  extends pvs None is = absurd (let e : ◌≡◌ {A = Option Group} (Some old) None = sym there ∙ is in cc)
  extends pvs (Some group) is = with_front (extend_by state (Some group) pvs) (disks_added (added_of state pvs)) refl

  next_loses : (number : ℕ) (id : Option (List ℕ)) (command : Command) (now : ℕ) (given : List Part) → IsPlanned id command
      → is_next command ≡ true → Takes (asks_of state (record { number = number; id = id; command = command })) given
      → refusal_of state (record { number = number; id = id; command = command }) now given ≡ None
      → LosesNone (change_of state (record { number = number; id = id; command = command }) now given)
  next_loses number id command now given planned next takes passes =
      let made = commits_next state number id command now given planned next takes passes in
      with_front (change_of state (record { number = number; id = id; command = command }) now given) []
      (ap (λ (c : Change). c.disk_of) made.change_is ∙ sym (append_nil found.disk_of))

  -- where one disk leaves, it is cleared
  leaves : (change : Change) (now : ℕ) → LeavesNext state change now → LosesNone change
  leaves change now left k header at off uncleared =
      apart_unlisted k header at
      (both_apart k found.disk_of left.number
      (absent set.empty (remove found.disk_of left.number) k
      (subst (λ (c : Change). set.contains (set_of c.disk_of) k ≡ false) left.change_is off)).1
      (absent set.empty (slice_index found.disk_of left.number ∷ []) k
      (subst (λ (c : Change). set.contains c.cleared k ≡ false) left.change_is uncleared)).1.0)

  -- where the group of a text takes its place, that lists the same ids
  restored : (vg : List ℕ) (now : ℕ) → first_refusal (vgcfgrestore_rows state vg now) ≡ None
      → Restores state (vgcfgrestore_change state) now → LosesNone (vgcfgrestore_change state)
  restored vg now passes made k header at off uncleared =
      let own : made.old ≡ old = same_Some made.old old (sym made.there ∙ there) in
      false_from_ne_true (lists old header.id)
      (λ listed.
      let said : lists made.said header.id ≡ true =
      still_listed state vg now made passes header.id (subst (λ (g : Group). lists g header.id ≡ true) (sym own) listed) in
      true≢false
      (sym (disk_among made.said found.disks (disks_of made.said found.disks) refl k header at said)
      ∙ subst (λ (c : Change). set.contains (set_of c.disk_of) k ≡ false) made.change_is off))

  loses_by : (number : ℕ) (id : Option (List ℕ)) (command : Command) (now : ℕ) (given : List Part) → IsPlanned id command
      → IsBackupOf command backup → Takes (asks_of state (record { number = number; id = id; command = command })) given
      → refusal_of state (record { number = number; id = id; command = command }) now given ≡ None
      → (group : Group) → (change_of state (record { number = number; id = id; command = command }) now given).group ≡ Some group
      → LosesNone (change_of state (record { number = number; id = id; command = command }) now given)
  loses_by number id command now given planned known takes passes group is =
      by_kind (λ c. IsPlanned id c → IsBackupOf c backup → Takes (asks_of state (record { number = number; id = id; command = c })) given
      → refusal_of state (record { number = number; id = id; command = c }) now given ≡ None
      → (change_of state (record { number = number; id = id; command = c }) now given).group ≡ Some group
      → LosesNone (change_of state (record { number = number; id = id; command = c }) now given))
      (record {
        next = λ c next other planned known takes passes is. next_loses number id c now given planned next takes passes;
        new_volume = λ new planned known takes passes is. next_loses number id (Lvcreate new) now given planned refl takes passes;
        new_pv = λ pv copies planned known takes passes is. absurd cc;
        new_group = λ vg extent_size pvs planned known takes passes is.
            absurd (let e : ◌≡◌ {A = Option Group} (Some old) None = sym there ∙ none_found _ found.group passes in cc);
        joining = λ vg pvs planned known takes passes is. extends pvs found.group refl;
        leaving = λ vg pv planned known takes passes is.
            leaves (change_of state (record { number = number; id = id; command = Vgreduce vg pv }) now given) now
            (leaves_next state vg pv now passes);
        removal = λ vg planned known takes passes is. absurd cc;
        restore = λ vg text planned known takes passes is.
            restored vg now passes (restores state vg now (some_backup vg text backup known) passes);
      }) id command planned planned known takes passes is

-- ---- what a disk gave that isn't listed

unlisted_by : (group : Group) (pv sectors : ℕ) (sector_at : ℕ → List ℕ) (contents : Option PvFound) (read : Option PvOf)
    → IsPvReading pv sector_at contents read
    → ((header : PvHeader) → header_on contents ≡ Some header → lists group header.id ≡ false)
    → is_listed group (record { sectors = sectors; pv = read }) ≡ false
unlisted_by group pv sectors sector_at None read is none =
    ap (λ (o : Option PvOf). is_listed group (record { sectors = sectors; pv = o })) is
unlisted_by group pv sectors sector_at (Some (NoLabel refusal)) read is none =
    ap (λ (o : Option PvOf). is_listed group (record { sectors = sectors; pv = o })) is
unlisted_by group pv sectors sector_at (Some (NoHeader label refusal)) read is none =
    ap (λ (o : Option PvOf). is_listed group (record { sectors = sectors; pv = o })) is
unlisted_by group pv sectors sector_at (Some (Whole label header areas)) None is none = absurd is
unlisted_by group pv sectors sector_at (Some (Whole label header areas)) (Some own) is none = ap (lists group) is.0 ∙ none header refl

nothing_is : (r : AreaReading) → is_something r ≡ false → IsNone r
nothing_is HoldsNone is = refl
nothing_is (Copy group text passed) is = absurd cc
nothing_is (Refused why) is = absurd cc

module _ (base : Image) (sizes : List ℕ) (found : Found) (names : List (List ℕ)) (backup : Option Backup) (line : Line) (now : ℕ)
    (given : List Part) (p : CanCarryOut base sizes found names backup line now given)
    (k : ℕ) (disk : Disk) (reading : Reading) (at_disk : slice_get found.disks k ≡ Some disk)
    (at_reading : slice_get p.scan.readings k ≡ Some reading) (reads : IsDiskReading k (base k) disk reading) where
  abbrev change : Change
  change = change_of (state_in found names backup) line now given

  module _ (none : (old : Group) → found.group ≡ Some old → (header : PvHeader) → disk_with found.disks header.id ≡ k
      → lists old header.id ≡ false) where
    unlisted : (old : Group) → found.group ≡ Some old → is_listed old reading ≡ false
    unlisted old there =
        unlisted_by old k reading.sectors (base k) disk.contents reading.pv reads.pv_is
        (λ header has. none old there header (disk_with_own 0 found.disks p.shape.differ k disk header at_disk has))

    by : IsSettledScan p.scan.readings found → PvGives IsNone reading.pv
    by (settled_none nothing no_group given) = gives_at IsNone p.scan.readings k reading given at_reading
    by (settled_some held parts some copy given all) =
        pv_weaker (IsSettled held.group held.text reading) IsNone (λ r s. nothing_is r (s.1 (unlisted held.group some))) reading.pv
        (gives_on (IsSettled held.group held.text) p.scan.readings k reading all at_reading)

    nothing_unlisted : PvGives IsNone reading.pv
    nothing_unlisted = by (settled base sizes found names backup line now given p)

  -- one that is none of the disks of the group that was found gives nothing
  pub nothing_apart : Each (λ n. n ≢ k) found.disk_of → PvGives IsNone reading.pv
  nothing_apart apart = nothing_unlisted (λ old there header at. apart_unlisted found names backup p.shape old there k header at apart)

  -- nor does one to which the line commits nothing, and that it doesn't clear
  pub nothing_off : (group : Group) → change.group ≡ Some group → set.contains (set_of change.disk_of) k ≡ false
      → set.contains change.cleared k ≡ false → PvGives IsNone reading.pv
  nothing_off group is off uncleared =
      nothing_unlisted
      (λ old there header at.
      loses_by found names backup p.shape old there line.number line.id line.command now given p.planned p.given_back p.takes p.passes group
      is k header at off uncleared)
