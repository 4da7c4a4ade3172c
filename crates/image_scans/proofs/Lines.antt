-- What a line makes: a version of the group, a new physical volume, or nothing.
use Rattle.std.proofs.Common.{◌≡◌, ◌≤◌, ◌<◌, ℕ, ◌^◌, true, false, List, [], ◌∷◌, Option, Some, None, refl, sym, ap, subst, ◌∙◌}
use Rattle.std.specs.Prelude.{IsSomeAnd, is_some, slice_get, unwrap_or}
use Rattle.std.specs.Option.{option_map_or}
use Rattle.std.proofs.lemmas.Bool.{ltb-false}
use Rattle.std.proofs.lemmas.Option.{same_Some}
use Rattle.command_table.specs.Options.{number_named}
use Rattle.command_table.specs.declared.command.Command.{Command}
use Rattle.command_table.specs.declared.command.Command.TheVariants.{Lvcreate}
use Rattle.line_answers.specs.declared.op_refusal.OpRefusal.{OpRefusal}
use Rattle.line_answers.specs.declared.op_refusal.OpRefusal.TheVariants.{UnknownGroup, UnknownPv}
use Rattle.lvm_script.specs.declared.line.Line.{Line}
use Rattle.disk_model.specs.Steps.{Image}
use Rattle.meta_model.specs.declared.group.Group.{Group}
use Rattle.extent_alloc.specs.declared.part.Part.{Part}
use Rattle.scan_rules.specs.Decision.{Reading}
use Rattle.vg_found.specs.declared.disk.Disk.{Disk}
use Rattle.vg_found.specs.declared.found.Found.{Found}
use Rattle.vg_found.specs.Shape.{HasShape}
use Rattle.vg_found.specs.Whole.{IsWhole}
use Rattle.group_plan.proofs.Passed.{both_false}
use Rattle.group_plan.specs.Judging.{first_refusal, stands_on_disk}
use Rattle.group_plan.specs.State.{IsState}
use Rattle.group_plan.specs.declared.state.Change.{Change}
use Rattle.group_plan.specs.declared.state.GroupState.{GroupState}
use Rattle.group_plan.specs.declared.backup.Backup.{Backup}
use Rattle.group_plan.specs.declared.backup.Backup.TheVariants.{Sound}
use Rattle.group_plan.specs.Backup.{IsBackup}
use Rattle.pv_plans.proofs.PassedRows.{disk_passes}
use Rattle.pv_plans.specs.Pvcreate.{disk_rows, fewest_sectors, group_has, is_listed, new_label, pvcreate_change}
use Rattle.vg_plans.proofs.Leaving.{leaves_next}
use Rattle.vg_plans.specs.Vgextend.{extend_by, found_rows}
use Rattle.vg_plans.specs.Vgreduce.{vgreduce_change}
use Rattle.vg_plans.proofs.Restoring.{Restores, restores, sound_tree}
use Rattle.vg_plans.specs.Vgcfgrestore.{vgcfgrestore_change, vgcfgrestore_rows}
use Rattle.lv_plans.specs.Allocating.{Takes}
use Rattle.group_ops.proofs.NextVersions.{commits_next, is_next, by_kind}
use Rattle.group_ops.specs.Laws.{state_in}
use Rattle.group_ops.specs.Planning.{IsBackupOf, IsPlanned, asks_of, change_of, refusal_of}
use Rattle.image_scans.specs.Laws.{CanCarryOut}
use Rattle.image_scans.proofs.CommitCommands.{Commits, leaves_commits, next_commits, vgcreate_commits, vgextend_commits}
use Rattle.image_scans.proofs.CommitLine.{is_state, settled}
use Rattle.image_scans.proofs.SettledBase.{IsSettledScan}
use Rattle.image_scans.proofs.RestoredCommit.{restores_commits}

-- a new physical volume on a disk that the group doesn't list, with an id that stands nowhere
pub record MakesPv (state : GroupState) (change : Change) : Type 0 where
  pub none : change.group ≡ None
  pub number : ℕ
  pub disk : Disk
  pub there : slice_get state.disks number ≡ Some disk
  pub id : List ℕ
  pub copies : ℕ
  pub labels_is : change.labels ≡ new_label id copies number disk ∷ []
  pub unlisted : is_listed state number ≡ false
  pub enough : fewest_sectors copies ≤ disk.sectors
  pub not_in_group : group_has id state.group ≡ false
  pub on_no_disk : stands_on_disk id state.disks ≡ false

pub data LineMakes (found : Found) (state : GroupState) (change : Change) : Type 0 where
  makes_version : Commits found state change → LineMakes found state change
  makes_pv : MakesPv state change → LineMakes found state change
  makes_nothing : change.group ≡ None → change.labels ≡ [] → LineMakes found state change

-- ---- pvcreate

abbrev rows_by : GroupState → List ℕ → List ℕ → ℕ → Option ℕ → List (Option OpRefusal)
rows_by state id name copies None = Some (UnknownPv name) ∷ []
rows_by state id name copies (Some number) = disk_rows state id name copies number (slice_get state.disks number)

on_disk : (found : Found) (state : GroupState) (id name : List ℕ) (copies number : ℕ) (o : Option Disk) → slice_get state.disks number ≡ o
    → first_refusal (disk_rows state id name copies number o) ≡ None → (change : Change) → change.group ≡ None
    → change.labels ≡ option_map_or (λ disk. new_label id copies number disk ∷ []) o [] → LineMakes found state change
on_disk found state id name copies number None there none change group labels = makes_nothing group labels
on_disk found state id name copies number (Some disk) there none change group labels =
    let rows = disk_passes state id name copies number disk none in
    let ids = both_false (group_has id state.group) (stands_on_disk id state.disks) rows.own_id in
    makes_pv (record {
      none = group;
      number = number;
      disk = disk;
      there = there;
      id = id;
      copies = copies;
      labels_is = labels;
      unlisted = rows.unlisted;
      enough = ltb-false disk.sectors (fewest_sectors copies) rows.enough;
      not_in_group = ids.0;
      on_no_disk = ids.1;
    })

by_name : (found : Found) (state : GroupState) (id name : List ℕ) (copies : ℕ) (o : Option ℕ)
    → first_refusal (rows_by state id name copies o) ≡ None → (change : Change) → change.group ≡ None
    → change.labels ≡ option_map_or (λ number. option_map_or (λ disk. new_label id copies number disk ∷ []) (slice_get state.disks number)
    []) o [] → LineMakes found state change
by_name found state id name copies None none change group labels = absurd cc
by_name found state id name copies (Some number) none change group labels =
    on_disk found state id name copies number (slice_get state.disks number) refl none change group labels

-- ---- any line

extend_line : (found : Found) (names : List (List ℕ)) (backup : Option Backup) → HasShape found → IsWhole found
    → IsState (state_in found names backup) → (readings : List Reading) → IsSettledScan readings found
    → (vg : List ℕ) (pvs : List (List ℕ)) (now : ℕ) (o : Option Group)
    → found.group ≡ o → first_refusal (option_map_or (found_rows (state_in found names backup) vg pvs now) o (Some (UnknownGroup vg) ∷ []))
    ≡ None
    → LineMakes found (state_in found names backup) (extend_by (state_in found names backup) o pvs)
extend_line found names backup shape whole is readings scan vg pvs now None there none = absurd cc
extend_line found names backup shape whole is readings scan vg pvs now (Some group) there none =
    makes_version (vgextend_commits found names backup shape whole is readings scan vg pvs now group there none)

next_line : (found : Found) (names : List (List ℕ)) (backup : Option Backup) → HasShape found → IsWhole found
    → IsState (state_in found names backup) → (readings : List Reading) → IsSettledScan readings found
    → (number : ℕ) (id : Option (List ℕ)) (command : Command) (now : ℕ) (given : List Part) → now < 2 ^ 48
    → IsPlanned id command → is_next command ≡ true
    → Takes (asks_of (state_in found names backup) (record { number = number; id = id; command = command })) given
    → refusal_of (state_in found names backup) (record { number = number; id = id; command = command }) now given ≡ None
    → LineMakes found (state_in found names backup)
    (change_of (state_in found names backup) (record { number = number; id = id; command = command }) now given)
next_line found names backup shape whole is readings scan number id command now given time planned next takes none =
    makes_version
    (next_commits found names backup shape whole is readings scan
    (change_of (state_in found names backup) (record { number = number; id = id; command = command }) now given) now time
    (commits_next (state_in found names backup) number id command now given planned next takes none))

restore_line : (found : Found) (names : List (List ℕ)) (backup : Option Backup) → IsState (state_in found names backup)
    → (readings : List Reading) → IsSettledScan readings found → (vg text : List ℕ) (now : ℕ) (o : Option Backup) → backup ≡ o
    → IsSomeAnd o (IsBackup text) → first_refusal (vgcfgrestore_rows (state_in found names backup) vg now) ≡ None
    → Commits found (state_in found names backup) (vgcfgrestore_change (state_in found names backup))
restore_line found names backup is readings scan vg text now None same known none = absurd known
restore_line found names backup is readings scan vg text now (Some b) same known none =
    let state : GroupState = state_in found names backup in
    let made : Restores state (vgcfgrestore_change state) now = restores state vg now (ap is_some same) none in
    let sound = sound_tree text made.said (subst (IsBackup text) (same_Some b (Sound made.said) (sym same ∙ made.gives)) known) in
    restores_commits found state is refl readings scan (vgcfgrestore_change state) now made sound.0 sound.1

abbrev line_of : ℕ → Option (List ℕ) → Command → Line
line_of number id command = record { number = number; id = id; command = command }

by_command : (found : Found) (names : List (List ℕ)) (backup : Option Backup) → HasShape found → IsWhole found
    → IsState (state_in found names backup) → (readings : List Reading) → IsSettledScan readings found
    → (number : ℕ) (id : Option (List ℕ)) (command : Command) (now : ℕ) (given : List Part) → now < 2 ^ 48
    → IsPlanned id command → IsBackupOf command backup
    → Takes (asks_of (state_in found names backup) (record { number = number; id = id; command = command })) given
    → refusal_of (state_in found names backup) (record { number = number; id = id; command = command }) now given ≡ None
    → LineMakes found (state_in found names backup)
    (change_of (state_in found names backup) (record { number = number; id = id; command = command }) now given)
by_command found names backup shape whole is readings scan number id command now given time planned known takes none =
    by_kind (λ c. IsPlanned id c → IsBackupOf c backup → Takes (asks_of (state_in found names backup) (line_of number id c)) given
    → refusal_of (state_in found names backup) (line_of number id c) now given ≡ None
    → LineMakes found (state_in found names backup) (change_of (state_in found names backup) (line_of number id c) now given))
    (record {
      next = λ c one no planned known takes none.
          next_line found names backup shape whole is readings scan number id c now given time planned one takes none;
      new_volume = λ new planned known takes none.
          next_line found names backup shape whole is readings scan number id (Lvcreate new) now given time planned refl takes none;
      new_pv = λ pv copies planned known takes none.
          by_name found (state_in found names backup) (unwrap_or id []) pv copies (number_named names pv) none
          (pvcreate_change (state_in found names backup) (unwrap_or id []) pv copies)
          refl refl;
      new_group = λ vg extent_size pvs planned known takes none.
          makes_version (vgcreate_commits found names backup is id vg extent_size pvs now planned none);
      joining = λ vg pvs planned known takes none.
          extend_line found names backup shape whole is readings scan vg pvs now found.group refl none;
      leaving = λ vg pv planned known takes none.
          makes_version (leaves_commits found names backup shape whole is readings scan (vgreduce_change (state_in found names backup) pv)
          now
          (leaves_next (state_in found names backup) vg pv now none));
      removal = λ vg planned known takes none. makes_nothing refl refl;
      restore = λ vg text planned known takes none.
          makes_version (restore_line found names backup is readings scan vg text now backup refl known none);
    }) id command planned planned known takes none

pub line_makes : (base : Image) (sizes : List ℕ) (found : Found) (names : List (List ℕ)) (backup : Option Backup) (line : Line) (now : ℕ)
    (given : List Part) → CanCarryOut base sizes found names backup line now given
    → LineMakes found (state_in found names backup) (change_of (state_in found names backup) line now given)
line_makes base sizes found names backup line now given p =
    by_command found names backup p.shape p.whole (is_state base sizes found names backup line now given p) p.scan.readings
    (settled base sizes found names backup line now given p) line.number line.id line.command now given p.time p.planned p.given_back
    p.takes p.passes
