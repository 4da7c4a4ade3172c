-- The physical volumes of the group that a line gives lie well on their disks, where those of the group in force do.
use Rattle.std.proofs.Common.{◌≡◌, ℕ, true, false, List, [], ◌∷◌, Option, Some, None, refl, subst}
use Rattle.std.specs.Prelude.{option_map, unwrap_or}
use Rattle.std.specs.Option.{option_map_or}
use Rattle.std.specs.List.{AllByRecursion as Each}
use Rattle.command_table.specs.declared.command.Command.{Command}
use Rattle.command_table.specs.declared.command.Command.TheVariants.{Pvcreate, Pvmove, Pvck, Pvs, Vgcreate, Vgextend, Vgreduce, Vgremove}
use Rattle.command_table.specs.declared.command.Command.TheVariants.{Vgcfgbackup, Vgcfgrestore, Vgck, Vgs, Lvcreate, Lvs, Read, Fill, Write}
use Rattle.command_table.specs.declared.command.Command.TheVariants.{Flush, List as ListVolumes, Wait, Resync}
use Rattle.command_table.specs.declared.command.NewVolume.{NewVolume}
use Rattle.meta_model.specs.declared.group.Group.{Group}
use Rattle.extent_alloc.specs.declared.part.Part.{Part}
use Rattle.scan_rules.specs.Decision.{Found as PvOf, Reading}
use Rattle.vg_found.specs.Disks.{disks_of, shapes}
use Rattle.group_edits.specs.NextVersion.{next_version}
use Rattle.group_edits.specs.RestoredGroup.{restored_group}
use Rattle.group_plan.proofs.Chained.{back_passes, front_passes}
use Rattle.group_plan.proofs.PlacedVolumes.{IsPlacedOn, added_placed, none_misplaced}
use Rattle.group_plan.specs.Committing.{length_row_on, named_rows, no_change, rows_where_found}
use Rattle.group_plan.specs.State.{IsState}
use Rattle.group_plan.specs.declared.state.GroupState.{GroupState}
use Rattle.group_plan.specs.Judging.{first_refusal}
use Rattle.group_plan.specs.declared.backup.Backup.{Backup}
use Rattle.group_plan.specs.declared.backup.Backup.TheVariants.{Broken, Sound, Unread}
use Rattle.group_plan.specs.Members.{pv_named}
use Rattle.vg_plans.proofs.PassedRows.{sound_passes}
use Rattle.vg_plans.proofs.PlacedAgain.{reduced_placed, restored_placed}
use Rattle.vg_plans.specs.Vgextend.{extend_by}
use Rattle.vg_plans.specs.Vgcreate.{empty_group}
use Rattle.vg_plans.specs.Vgcfgrestore.{backup_change, restore_rows, sound_rows, sound_tests}
use Rattle.vg_plans.specs.Vgreduce.{leaving_change, reduce_change as leave_change}
use Rattle.lv_plans.specs.Lvcreate.{create_change}
use Rattle.group_ops.proofs.NextVersions.{is_next, next_holds}
use Rattle.group_ops.specs.Planning.{change_of, refusal_of, zeroes}
use Rattle.group_ops.specs.Laws.{ArePlaced, ChangeIsPlaced}

empty_on : (id name : List ℕ) (extent_size : ℕ) (pv : Option PvOf) → unwrap_or (option_map (λ (found : PvOf). false) pv) false ≡ false
empty_on id name extent_size None = refl
empty_on id name extent_size (Some found) = refl

empty_placed : (id name : List ℕ) (extent_size : ℕ) (readings : List Reading) → Each (IsPlacedOn (empty_group id name extent_size)) readings
empty_placed id name extent_size [] = tt
empty_placed id name extent_size (reading ∷ more) = (empty_on id name extent_size reading.pv, empty_placed id name extent_size more)

extend_placed : (state : GroupState) → IsState state → (group : Option Group) (names : List (List ℕ)) → ArePlaced state.disks group
    → ArePlaced state.disks (extend_by state group names).group
extend_placed state is None names placed = tt
extend_placed state is (Some group) names placed = added_placed state is (next_version group) names placed

-- a next version of the group leaves the physical volumes as they are
next_placed : (state : GroupState) (number : ℕ) (id : Option (List ℕ)) (command : Command) (now : ℕ) (given : List Part)
    → ArePlaced state.disks state.group → is_next command ≡ true → zeroes command ≡ false
    → ArePlaced state.disks (change_of state (record { number = number; id = id; command = command }) now given).group
next_placed state number id command now given placed is other =
    next_holds state (λ change. ArePlaced state.disks change.group) tt
    (λ old there name lvs. subst (λ (o : Option Group). ArePlaced state.disks o) there placed) number id command now given is other

create_placed : (state : GroupState) (id : List ℕ) (new : NewVolume) (now : ℕ) (given : List Part) (group : Option Group)
    → ArePlaced state.disks group
    → ArePlaced state.disks (option_map_or (λ (g : Group). create_change state id new now g given) group (no_change state)).group
create_placed state id new now given None placed = tt
create_placed state id new now given (Some group) placed = placed

-- a text gives a group that lies well, where nothing refuses it
restore_placed : (state : GroupState) (vg : List ℕ) (now : ℕ) (backup : Option Backup) (group : Option Group)
    → first_refusal (option_map_or (λ (b : Backup). rows_where_found group vg (restore_rows state vg b now)) backup []) ≡ None
    → ArePlaced state.disks (option_map_or (λ (b : Backup). option_map_or (backup_change state b) group (no_change state)) backup
    (no_change state)).group
restore_placed state vg now None group none = tt
restore_placed state vg now (Some backup) None none = tt
restore_placed state vg now (Some (Unread kind)) (Some found) none = tt
restore_placed state vg now (Some (Broken said rule)) (Some found) none = tt
restore_placed state vg now (Some (Sound said)) (Some found) none =
    let rows = front_passes (named_rows found vg) (sound_rows state found said now) none in
    let tests =
    back_passes (sound_tests state found said)
    (length_row_on state (disks_of said state.disks) (restored_group found said) now ∷ []) rows in
    restored_placed found said state.disks (sound_passes state found said tests).shape

leaving_placed : (state : GroupState) (group : Group) (number : Option ℕ) → ArePlaced state.disks (Some group)
    → ArePlaced state.disks (option_map_or (leaving_change state group) number (no_change state)).group
leaving_placed state group None placed = tt
leaving_placed state group (Some number) placed = reduced_placed group number (shapes state.disks) placed

-- a change that one of them leaves
leave_placed : (state : GroupState) (name : List ℕ) (group : Option Group) → ArePlaced state.disks group
    → ArePlaced state.disks (option_map_or (leave_change state name) group (no_change state)).group
leave_placed state name None placed = tt
leave_placed state name (Some group) placed = leaving_placed state group (pv_named state name) placed

change_by : (state : GroupState) → IsState state → (number : ℕ) (id : Option (List ℕ)) (command : Command) (now : ℕ) (given : List Part)
    → refusal_of state (record { number = number; id = id; command = command }) now given ≡ None → ArePlaced state.disks state.group
    → ArePlaced state.disks (change_of state (record { number = number; id = id; command = command }) now given).group
change_by state is number id (Pvcreate pv copies) now given none placed = tt
change_by state is number id (Vgcreate vg extent_size pvs) now given none placed =
    added_placed state is (empty_group (unwrap_or id []) vg extent_size) pvs
    (none_misplaced (empty_group (unwrap_or id []) vg extent_size) 0 (shapes state.disks)
    (empty_placed (unwrap_or id []) vg extent_size (shapes state.disks)))
change_by state is number id (Vgextend vg pvs) now given none placed = extend_placed state is state.group pvs placed
change_by state is number id (Pvmove a) now given none placed = tt
change_by state is number id (Pvck a) now given none placed = tt
change_by state is number id Pvs now given none placed = tt
change_by state is number id (Vgreduce vg pv) now given none placed = leave_placed state pv state.group placed
change_by state is number id (Vgremove a) now given none placed = tt
change_by state is number id (Vgcfgbackup a) now given none placed = tt
change_by state is number id (Vgcfgrestore vg text) now given none placed = restore_placed state vg now state.backup state.group none
change_by state is number id Vgck now given none placed = tt
change_by state is number id Vgs now given none placed = tt
change_by state is number id (Lvcreate new) now given none placed = create_placed state (unwrap_or id []) new now given state.group placed
change_by state is number id Lvs now given none placed = tt
change_by state is number id (Read a b c) now given none placed = tt
change_by state is number id (Fill a b c d e) now given none placed = tt
change_by state is number id (Write a b c d) now given none placed = tt
change_by state is number id (Flush a) now given none placed = tt
change_by state is number id ListVolumes now given none placed = tt
change_by state is number id Wait now given none placed = tt
change_by state is number id (Resync a) now given none placed = tt
change_by state is number id command now given none placed = next_placed state number id command now given placed refl refl

-- where those of the group lie well, those of the change's group do
pub change_is_placed : ChangeIsPlaced
change_is_placed state line now given is none placed = change_by state is line.number line.id line.command now given none placed
