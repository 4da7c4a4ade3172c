-- Once a vgremove has cleared the disks of the group, no disk gives a copy, so no set of disks finds a group.
use Rattle.std.proofs.Common.{◌≡◌, ℕ, true, false, List, Option, Some, None, ⊎_elim, refl, sym, ap, subst, ◌∙◌}
use Rattle.std.specs.Prelude.{slice_get}
use Rattle.std.specs.FinSet as set
use Rattle.std.specs.Ordering.{nat_cmp}
use Rattle.std.proofs.lemmas.Bool.{cases_Bool}
use Rattle.command_table.specs.declared.command.Command.{Command}
use Rattle.command_table.specs.declared.command.Command.TheVariants.{Vgremove}
use Rattle.line_answers.specs.declared.op_refusal.OpRefusal.{OpRefusal}
use Rattle.line_answers.specs.declared.op_refusal.OpRefusal.TheVariants.{UnknownGroup}
use Rattle.lvm_script.specs.declared.line.Line.{Line}
use Rattle.disk_model.specs.Steps.{Image}
use Rattle.meta_model.specs.declared.group.Group.{Group}
use Rattle.extent_alloc.specs.declared.part.Part.{Part}
use Rattle.scan_rules.specs.Decision.{AreaReading, Held, Reading}
use Rattle.disk_batch.specs.InTurn.{HasFirstBatches, with_batches}
use Rattle.vg_found.specs.declared.disk.Disk.{Disk}
use Rattle.vg_found.specs.declared.found.Found.{Found}
use Rattle.vg_scan.specs.Readings.{IsDiskReading}
use Rattle.vg_scan.specs.Scans.{IsScanOf}
use Rattle.vg_scan.specs.Texts.{IsCopyOf}
use Rattle.group_plan.proofs.Passed.{absent}
use Rattle.group_plan.specs.Committing.{rows_where_found}
use Rattle.group_plan.specs.Judging.{first_refusal, set_of}
use Rattle.group_plan.specs.declared.backup.Backup.{Backup}
use Rattle.group_plan.specs.declared.state.GroupState.{GroupState}
use Rattle.vg_plans.specs.Vgremove.{remove_rows}
use Rattle.group_ops.specs.Laws.{state_in}
use Rattle.group_ops.specs.Planning.{change_of, refusal_of}
use Rattle.change_batches.specs.Building.{AreScanned}
use Rattle.change_batches.proofs.ClearedAreas.{state_scanned}
use Rattle.vg_change.specs.LineBatches.{clears_of}
use Rattle.image_scans.proofs.ClearedAgain.{others_same}
use Rattle.image_scans.proofs.CommitLine.{all_written, is_state, settled, shown}
use Rattle.image_scans.proofs.AreaReadings.{IsNone, pv_weaker}
use Rattle.image_scans.proofs.SettledBase.{IsSettledScan, settled_none, settled_some}
use Rattle.image_scans.specs.Laws.{CanCarryOut}
use Rattle.repair_scans.proofs.RepairEnd.{OneReading}
use Rattle.line_history.proofs.EachSetCleared.{cleared_gives}
use Rattle.line_history.proofs.EachSetDisks.{OneRead, read_same}
use Rattle.line_history.proofs.EachSetListed.{nothing_apart}
use Rattle.line_history.proofs.EachSetScan.{EachGives, GivesSuch, set_finds}

-- no copy of any group
abbrev GivesNone : AreaReading → Type 0
GivesNone = GivesSuch (λ group. ⊥)

none_given : (r : AreaReading) → IsNone r → GivesNone r
none_given r is = subst GivesNone (sym is) tt

module _ (base : Image) (sizes : List ℕ) (found : Found) (names : List (List ℕ)) (backup : Option Backup) (line : Line) (now : ℕ)
    (given : List Part) (vg : List ℕ) (p : CanCarryOut base sizes found names backup line now given) (is : line.command ≡ Vgremove vg) where
  abbrev state : GroupState
  state = state_in found names backup

  abbrev cleared : set.FinSet nat_cmp
  cleared = (change_of state line now given).cleared

  abbrev last : Image
  last = with_batches (clears_of state line now given) base

  all_cleared : HasFirstBatches (clears_of state line now given) base last
  all_cleared = all_written (clears_of state line now given) base

  abbrev line_with : Command → Line
  line_with command = record { number = line.number; id = line.id; command = command }

  -- all disks of the group that was found are cleared
  cleared_are : cleared ≡ set_of found.disk_of
  cleared_are = ap (λ (c : Command). (change_of state (line_with c) now given).cleared) is

  -- one was found
  some_group : found.group ≡ None → ⊥
  some_group none =
      let rows : first_refusal (rows_where_found found.group vg (remove_rows vg)) ≡ None =
      subst (λ (c : Command). refusal_of state (line_with c) now given ≡ None) is p.passes in
      let e : ◌≡◌ {A = Option OpRefusal} (Some (UnknownGroup vg)) None =
      subst (λ (o : Option Group). first_refusal (rows_where_found o vg (remove_rows vg)) ≡ None) none rows in
      cc

  scanned : AreScanned found.disks found.areas
  scanned = state_scanned state (is_state base sizes found names backup line now given p)

  module _ (held : Held) (copy : IsCopyOf held.text held.group held.passed) where
    module _ (k : ℕ) (disk : Disk) (reading : Reading) (at_disk : slice_get found.disks k ≡ Some disk)
        (at_reading : slice_get p.scan.readings k ≡ Some reading) (reads : IsDiskReading k (base k) disk reading)
        (is_read : disk.contents ≡ None → ⊥) where
      on_cleared : set.contains cleared k ≡ true → OneRead k (last k) GivesNone disk
      on_cleared on =
          cleared_gives found.disks found.areas scanned cleared p.keeps.clears base base
          (shown base sizes found names backup line now given p) held.text held.group held.passed copy k (λ sector. refl) disk at_disk
          reading reads on GivesNone tt is_read

      on_other : set.contains cleared k ≡ false → OneRead k (last k) GivesNone disk
      on_other off =
          read_same k (base k) (last k) GivesNone disk reading
          (others_same found.disks found.areas scanned cleared p.keeps.clears base last all_cleared k off) reads is_read
          (pv_weaker IsNone GivesNone none_given reading.pv
          (nothing_apart base sizes found names backup line now given p k disk reading at_disk at_reading reads
          (absent set.empty found.disk_of k (ap (λ (s : set.FinSet nat_cmp). set.contains s k) (sym cleared_are) ∙ off)).1))

      each : OneRead k (last k) GivesNone disk
      each = ⊎_elim on_cleared on_other (cases_Bool (set.contains cleared k))

    all_give : (unread : set.FinSet nat_cmp) → EachGives base sizes found p.whole p.scan last (λ group. ⊥) unread
    all_give unread k disk reading at_disk at_reading reads is_read read = each k disk reading at_disk at_reading reads is_read

  -- a scan finds none
  pub removal_finds : OneReading → (some : Found) → IsScanOf last sizes some → some.group ≡ None
  removal_finds one_reading some scan = by (settled base sizes found names backup line now given p) some.group refl
    where
      by : IsSettledScan p.scan.readings found → (o : Option Group) → some.group ≡ o → o ≡ None
      by (settled_none nothing none all) o there = absurd (some_group none)
      by (settled_some held parts own copy all settled_all) None there = refl
      by (settled_some held parts own copy all settled_all) (Some other) there =
          absurd (set_finds base sizes found p.whole p.scan last (λ group. ⊥) one_reading some other (all_give held copy some.unread) scan
          there)
