-- What a vgcfgrestore commits, where no row refuses it: the group of its text, on the disks of the group in force.
use Rattle.std.proofs.Common.{inl, inr, ◌≡◌, ◌<◌, ℕ, true, List, [], ◌∷◌, length, Option, Some, None, refl, subst}
use Rattle.std.specs.Prelude.{All, is_some}
use Rattle.std.specs.Option.{option_map_or}
use Rattle.line_answers.specs.declared.op_refusal.OpRefusal.TheVariants.{BadRule, BadText, MoveStands, UnknownGroup}
use Rattle.meta_model.specs.Standing.{HasTree}
use Rattle.meta_model.specs.declared.group.Group.{Group}
use Rattle.volume_rules.specs.Moving.{has_move}
use Rattle.volume_rules.specs.Rules.{IsAccepted, number_of}
use Rattle.scan_rules.proofs.Scanning.{same_bytes_tells}
use Rattle.scan_rules.specs.Decision.{first_misplaced}
use Rattle.vg_found.specs.Disks.{disks_of, shapes}
use Rattle.group_edits.proofs.RestoredGroup.{restored_whole}
use Rattle.group_edits.proofs.Whole.{IsWhole}
use Rattle.group_edits.specs.RestoredGroup.{restored_group}
use Rattle.group_plan.proofs.Chained.{back_passes, front_passes, last_passes}
use Rattle.group_plan.specs.Backup.{IsBackup}
use Rattle.group_plan.specs.Committing.{length_row_on, named_rows, no_change, rows_where_found, seqno_row, version_change_on}
use Rattle.group_plan.specs.Judging.{area_row, first_refusal, refused_if}
use Rattle.group_plan.specs.State.{IsState}
use Rattle.group_plan.specs.declared.backup.Backup.{Backup}
use Rattle.group_plan.specs.declared.backup.Backup.TheVariants.{Broken, Sound, Unread}
use Rattle.group_plan.specs.declared.state.Change.{Change}
use Rattle.group_plan.specs.declared.state.GroupState.{GroupState}
use Rattle.vg_plans.proofs.PassedRows.{sound_passes}
use Rattle.vg_plans.proofs.PlacedAgain.{restored_placed}
use Rattle.vg_plans.proofs.SoundBackup.{disks_all_held, sound_listed, sound_seqnos}
use Rattle.vg_plans.specs.Vgcfgrestore.{backup_change, backup_rows, both_rows, restore_rows, sound_tests, vgcfgrestore_change}
use Rattle.vg_plans.specs.Vgcfgrestore.{vgcfgrestore_rows}

-- the change commits the group of a sound backup in place of the one in force, to the disks of its physical volumes
pub record Restores (state : GroupState) (change : Change) (now : ℕ) : Type 0 where
  pub old : Group
  pub there : state.group ≡ Some old
  pub said : Group
  pub gives : state.backup ≡ Some (Sound said)
  pub change_is : change ≡ version_change_on (disks_of said state.disks) (restored_group old said)
  pub same_id : said.id ≡ old.id
  pub same_name : said.name ≡ old.name
  pub listed : IsState state → All (λ n. n < length state.disks) (disks_of said state.disks)
  pub has_area : IsState state → area_row state.areas (disks_of said state.disks) ≡ None
  pub fits : length_row_on state (disks_of said state.disks) (restored_group old said) now ≡ None
  pub placed : first_misplaced (restored_group old said) (shapes state.disks) ≡ None
  pub whole : IsAccepted old → IsAccepted said → HasTree said → IsWhole (restored_group old said)

-- what a text gives that keeps the rules has a tree
pub sound_tree : (text : List ℕ) (said : Group) → IsBackup text (Sound said) → IsAccepted said × HasTree said
sound_tree text said (inl none) = absurd none
sound_tree text said (inr gives) = (gives.2.1, record { text = text; tree = gives.0; is_text = gives.1; stands = gives.2.0 })

backup_restores : (state : GroupState) (now : ℕ) (old : Group) (backup : Backup) → state.backup ≡ Some backup → state.group ≡ Some old
    → first_refusal (backup_rows state old backup now) ≡ None → Restores state (backup_change state backup old) now
backup_restores state now old (Unread kind) gives there none =
    absurd (let last = last_passes (refused_if (has_move old) MoveStands ∷ seqno_row old ∷ []) (Some (BadText kind)) none in cc)
backup_restores state now old (Broken said rule) gives there none =
    absurd (let last = last_passes (both_rows state old said) (Some (BadRule (number_of rule))) none in cc)
backup_restores state now old (Sound said) gives there none =
    let next : Group = restored_group old said in
    let tests : first_refusal (sound_tests state old said) ≡ None =
    back_passes (sound_tests state old said) (length_row_on state (disks_of said state.disks) next now ∷ []) none in
    let rows = sound_passes state old said tests in
    let seqnos = sound_seqnos state old said tests in
    record {
      old = old;
      there = there;
      said = said;
      gives = gives;
      change_is = refl;
      same_id = same_bytes_tells said.id old.id rows.same_id;
      same_name = same_bytes_tells said.name old.name rows.same_name;
      listed = λ is. sound_listed state is old said there tests;
      has_area =
          λ is. subst (λ (disks : List ℕ). area_row state.areas disks ≡ None)
          (disks_all_held state said (sound_listed state is old said there tests)) rows.has_area;
      fits = last_passes (sound_tests state old said) (length_row_on state (disks_of said state.disks) next now) none;
      placed = restored_placed old said state.disks rows.shape;
      whole = λ old_is said_is tree. restored_whole old said seqnos.0 seqnos.1 old_is said_is tree;
    }

restore_found : (state : GroupState) (vg : List ℕ) (now : ℕ) (backup : Backup) (o : Option Group) → state.backup ≡ Some backup
    → state.group ≡ o
    → first_refusal (option_map_or (restore_rows state vg backup now) o (Some (UnknownGroup vg) ∷ [])) ≡ None
    → Restores state (option_map_or (backup_change state backup) o (no_change state)) now
restore_found state vg now backup None gives there none = absurd cc
restore_found state vg now backup (Some old) gives there none =
    backup_restores state now old backup gives there (front_passes (named_rows old vg) (backup_rows state old backup now) none)

restore_by : (state : GroupState) (vg : List ℕ) (now : ℕ) (o : Option Backup) → state.backup ≡ o → is_some o ≡ true
    → first_refusal (option_map_or (λ (backup : Backup). rows_where_found state.group vg (restore_rows state vg backup now)) o []) ≡ None
    → Restores state (option_map_or (λ (backup : Backup). option_map_or (backup_change state backup) state.group (no_change state)) o
    (no_change state)) now
restore_by state vg now None gives some none = absurd cc
restore_by state vg now (Some backup) gives some none = restore_found state vg now backup state.group gives refl none

-- a vgcfgrestore that no row refuses does
pub restores : (state : GroupState) (vg : List ℕ) (now : ℕ) → is_some state.backup ≡ true
    → first_refusal (vgcfgrestore_rows state vg now) ≡ None → Restores state (vgcfgrestore_change state) now
restores state vg now some none = restore_by state vg now state.backup refl some none

-- what holds where nothing changes, and of each version that is committed to any disks, holds of its change
pub restore_holds : (state : GroupState) (Holds : Change → Type 0) → Holds (no_change state)
    → ((disks : List ℕ) (next : Group) → Holds (version_change_on disks next)) → Holds (vgcfgrestore_change state)
restore_holds state Holds none made = by state.backup state.group where
  by : (backup : Option Backup) (o : Option Group)
      → Holds (option_map_or (λ (b : Backup). option_map_or (backup_change state b) o (no_change state)) backup (no_change state))
  by None o = none
  by (Some backup) None = none
  by (Some (Unread kind)) (Some found) = none
  by (Some (Broken said rule)) (Some found) = none
  by (Some (Sound said)) (Some found) = made (disks_of said state.disks) (restored_group found said)
