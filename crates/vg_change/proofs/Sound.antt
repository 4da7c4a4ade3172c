-- The change of a line that no row refuses can be made, and lies on the disks.
use Rattle.std.proofs.Common.{◌≡◌, ◌<◌, ℕ, List, [], ◌∷◌, ◌++◌, length, Option, Some, None, refl, sym, ap, subst, ◌∙◌, arith, true}
use Rattle.std.specs.Prelude.{All, IfSome, is_some, slice_index, unwrap_or}
use Rattle.std.specs.List.{remove}
use Rattle.std.specs.Ordering.{nat_cmp}
use Rattle.std.specs.FinSet as set
use Rattle.std.specs.FinSet.{FinSet}
use Rattle.std.specs.Option.{option_map_or}
use Rattle.std.proofs.lemmas.List.Elements.{All-nil}
use Rattle.sector_base.specs.declared.spans.Span.{Span}
use Rattle.command_table.specs.declared.command.Command.{Command}
use Rattle.command_table.specs.declared.command.Command.TheVariants.{Lvcreate}
use Rattle.line_answers.specs.declared.op_refusal.OpRefusal.TheVariants.{GroupStands, UnknownGroup}
use Rattle.lvm_script.specs.declared.line.Line.{Line}
use Rattle.conf_text.specs.Printed.{printed}
use Rattle.meta_model.specs.declared.group.Group.{Group}
use Rattle.meta_print.specs.Layout.{tree_of}
use Rattle.extent_alloc.specs.declared.part.Part.{Part}
use Rattle.vg_found.specs.Disks.{disks_of}
use Rattle.group_edits.proofs.ReducedRules.{all_without}
use Rattle.group_edits.specs.ReducedGroup.{reduced_group}
use Rattle.group_edits.specs.NextVersion.{next_version}
use Rattle.group_edits.specs.RestoredGroup.{restored_group}
use Rattle.group_plan.specs.Added.{added_of}
use Rattle.group_plan.specs.Committing.{change_where_found, length_row, length_row_on, no_area_row, no_change, version_change}
use Rattle.group_plan.specs.Committing.{version_change_on}
use Rattle.group_plan.specs.Judging.{area_row, first_refusal, large_row, set_of, stored_size, used_row}
use Rattle.group_plan.specs.NewGroup.{change_with, extended}
use Rattle.group_plan.specs.State.{IsState}
use Rattle.group_plan.specs.declared.backup.Backup.{Backup}
use Rattle.group_plan.specs.declared.state.Change.{Change}
use Rattle.group_plan.specs.declared.state.GroupState.{GroupState}
use Rattle.vg_plans.proofs.PassedRows.{extend_passes, new_passes}
use Rattle.vg_plans.proofs.Leaving.{LeavesNext, leaves_next}
use Rattle.vg_plans.specs.Vgextend.{extend_by, found_rows, vgextend_change}
use Rattle.vg_plans.specs.Vgcreate.{empty_group, new_rows, vgcreate_change}
use Rattle.vg_plans.specs.Vgreduce.{vgreduce_change}
use Rattle.vg_plans.proofs.Restoring.{Restores, restores}
use Rattle.vg_plans.specs.Vgcfgrestore.{backup_change, vgcfgrestore_change, vgcfgrestore_rows}
use Rattle.lv_plans.specs.Allocating.{Takes}
use Rattle.group_ops.proofs.NextVersions.{CommitsNext, append_nil, commits_next, extended_none, by_kind, is_next}
use Rattle.group_ops.specs.Planning.{IsPlanned, asks_of, change_of, refusal_of}
use Rattle.change_batches.specs.Sound.{sizes_of, AreasLie, CanLabel, CanMake, CanTakeText, LabelLies, LiesOn}
use Rattle.vg_change.proofs.SoundCommit.{commit_can_make, commit_lies_on}
use Rattle.vg_change.proofs.SoundPvcreate.{pvcreate_can_make, pvcreate_lies_on}

-- the change can be made at this time, and lies on the disks
abbrev IsSound : GroupState → Change → ℕ → Type 0
IsSound state change now = CanMake state.areas change now × LiesOn (sizes_of state.disks) state.areas change

-- ---- vgcreate

new_sound : (state : GroupState) → IsState state → (base : Group) (names : List (List ℕ)) (now : ℕ)
    → first_refusal (new_rows state base names now) ≡ None → IsSound state (vgcreate_change state base names) now
new_sound state is base names now none =
    let rows = new_passes state base names now none in
    let no_disk : All (λ n. n < length state.disks) [] = All-nil (λ n. n < length state.disks) in (
      commit_can_make state is base [] names no_disk rows.used now rows.has_area rows.fits,
      commit_lies_on state is base [] names no_disk rows.used,
    )

vgcreate_sound : (state : GroupState) → IsState state → (base : Group) (names : List (List ℕ)) (now : ℕ) (o : Option Group)
    → first_refusal (option_map_or (λ (group : Group). Some (GroupStands group.name) ∷ []) o (new_rows state base names now)) ≡ None
    → IsSound state (vgcreate_change state base names) now
vgcreate_sound state is base names now None none = new_sound state is base names now none
vgcreate_sound state is base names now (Some group) none = absurd cc

-- ---- vgextend

listed_there : (state : GroupState) (group : Group) → IsState state → state.group ≡ Some group
    → All (λ n. n < length state.disks) state.disk_of
listed_there state group is found =
    subst (λ (o : Option Group). IfSome o (λ g. All (λ n. n < length state.disks) state.disk_of)) found is.there

found_sound : (state : GroupState) → IsState state → (vg : List ℕ) (names : List (List ℕ)) (now : ℕ) (group : Group)
    → state.group ≡ Some group → first_refusal (found_rows state vg names now group) ≡ None
    → IsSound state (vgextend_change state group names) now
found_sound state is vg names now group found none =
    let rows = extend_passes state vg names now group none in
    let listed : All (λ n. n < length state.disks) state.disk_of = listed_there state group is found in (
      commit_can_make state is (next_version group) state.disk_of names listed rows.used now rows.has_area rows.fits,
      commit_lies_on state is (next_version group) state.disk_of names listed rows.used,
    )

vgextend_sound : (state : GroupState) → IsState state → (vg : List ℕ) (names : List (List ℕ)) (now : ℕ) (o : Option Group) → state.group ≡ o
    → first_refusal (option_map_or (found_rows state vg names now) o (Some (UnknownGroup vg) ∷ [])) ≡ None
    → IsSound state (extend_by state o names) now
vgextend_sound state is vg names now None found none = absurd cc
vgextend_sound state is vg names now (Some group) found none = found_sound state is vg names now group found none

-- ---- the next version, on the disks of the group

-- whatever sectors are to hold zeros before
with_zeros : (state : GroupState) (change : Change) (zero : List Span) (now : ℕ) → IsSound state change now
    → IsSound state (record change { zero = zero }) now
with_zeros state change zero now sound = (
  record {
    labels = sound.0.labels;
    commit =
        λ group is. let t : CanTakeText change state.areas (printed (tree_of group now)) = sound.0.commit group
        is in record { listed = t.listed; committed = t.committed; room = t.room };
  },
  record { labels = sound.1.labels; differ = sound.1.differ; new_areas = sound.1.new_areas; commit = sound.1.commit },
)

-- and whatever disks are cleared behind
with_cleared : (state : GroupState) (change : Change) (cleared : FinSet nat_cmp) (now : ℕ) → IsSound state change now
    → IsSound state (record change { cleared = cleared }) now
with_cleared state change cleared now sound = (
  record {
    labels = sound.0.labels;
    commit =
        λ group is. let t : CanTakeText change state.areas (printed (tree_of group now)) = sound.0.commit group
        is in record { listed = t.listed; committed = t.committed; room = t.room };
  },
  record { labels = sound.1.labels; differ = sound.1.differ; new_areas = sound.1.new_areas; commit = sound.1.commit },
)

-- as the change of a group to which no physical volume is added
pub version_on : (state : GroupState) (disks : List ℕ) (next : Group)
    → change_with next disks (added_of state []) ≡ version_change_on disks next
unfolding extended
version_on state disks next =
    λ i. record { group = Some next; zero = []; labels = []; taken = set.empty; cleared = set.empty; disk_of = append_nil disks i }

version_sound_on : (state : GroupState) → IsState state → (disks : List ℕ) (next : Group) (now : ℕ)
    → All (λ n. n < length state.disks) disks → area_row state.areas disks ≡ None → length_row_on state disks next now ≡ None
    → IsSound state (version_change_on disks next) now
unfolding used_row
version_sound_on state is disks next now listed has_area fits =
    let same : disks ++ [] ≡ disks = append_nil disks in
    subst (λ (c : Change). IsSound state c now) (version_on state disks next) (
      commit_can_make state is next disks [] listed refl now
          (ap (area_row state.areas) same ∙ has_area)
          (ap (λ (l : List ℕ). large_row state.areas l (stored_size (extended next (added_of state [])) now)) same
          ∙ ap (λ (g : Group). large_row state.areas disks (stored_size g now)) (extended_none state next) ∙ fits),
      commit_lies_on state is next disks [] listed refl,
    )

version_sound : (state : GroupState) → IsState state → (next : Group) (now : ℕ) → All (λ n. n < length state.disks) state.disk_of
    → no_area_row state ≡ None → length_row state next now ≡ None → IsSound state (version_change state next) now
version_sound state is next now listed has_area fits = version_sound_on state is state.disk_of next now listed has_area fits

next_sound : (state : GroupState) → IsState state → (change : Change) (now : ℕ) → CommitsNext state change now → IsSound state change now
next_sound state is change now made =
    subst (λ (c : Change). IsSound state c now) (sym made.change_is)
    (with_zeros state (version_change state made.next) made.zero now
    (version_sound state is made.next now (listed_there state made.old is made.there) made.has_area made.fits))

-- ---- vgreduce and vgremove

leaves_sound : (state : GroupState) → IsState state → (change : Change) (now : ℕ) → LeavesNext state change now → IsSound state change now
leaves_sound state is change now left =
    let rest : List ℕ = remove state.disk_of left.number in
    let next : Group = reduced_group left.old left.number in
    subst (λ (c : Change). IsSound state c now) (sym left.change_is)
    (with_cleared state (version_change_on rest next) (set_of (slice_index state.disk_of left.number ∷ [])) now
    (version_sound_on state is rest next now
    (all_without (λ (n : ℕ). n < length state.disks) state.disk_of left.number (listed_there state left.old is left.there))
    left.has_area left.fits))

-- nothing is committed, and no label is written, whatever disks are cleared
none_sound : (state : GroupState) (cleared : FinSet nat_cmp) (disks : List ℕ) (now : ℕ)
    → IsSound state (record (no_change state) { cleared = cleared; disk_of = disks }) now
none_sound state cleared disks now = (
  record { labels = All-nil CanLabel; commit = λ group same. cc },
  record {
    labels = All-nil (LabelLies (sizes_of state.disks));
    differ = λ i j d before within. absurd (omega (arith, before, within));
    new_areas = λ none. All-nil (AreasLie (sizes_of state.disks));
    commit = λ group same. cc;
  },
)

-- ---- vgcfgrestore

restores_sound : (state : GroupState) → IsState state → (change : Change) (now : ℕ) → Restores state change now → IsSound state change now
restores_sound state is change now made =
    subst (λ (c : Change). IsSound state c now) (sym made.change_is)
    (version_sound_on state is (disks_of made.said state.disks) (restored_group made.old made.said) now (made.listed is) (made.has_area is)
    made.fits)

-- nothing changes where nothing is known of a text
restore_sound : (state : GroupState) → IsState state → (vg : List ℕ) (now : ℕ) → first_refusal (vgcfgrestore_rows state vg now) ≡ None
    → IsSound state (vgcfgrestore_change state) now
restore_sound state is vg now none = by state.backup refl where
  by : (backup : Option Backup) → state.backup ≡ backup → IsSound state (vgcfgrestore_change state) now
  by None gives =
      subst (λ (o : Option Backup). IsSound state
      (option_map_or (λ (b : Backup). change_where_found state (backup_change state b)) o (no_change state)) now) (sym gives)
      (none_sound state set.empty state.disk_of now)
  by (Some backup) gives = restores_sound state is (vgcfgrestore_change state) now (restores state vg now (ap is_some gives) none)

-- ---- all commands

sound_by : (state : GroupState) → IsState state → (number : ℕ) (id : Option (List ℕ)) (command : Command) (now : ℕ) (given : List Part)
    → IsPlanned id command → Takes (asks_of state (record { number = number; id = id; command = command })) given
    → refusal_of state (record { number = number; id = id; command = command }) now given ≡ None
    → IsSound state (change_of state (record { number = number; id = id; command = command }) now given) now
sound_by state is number id command now given planned takes none =
    by_kind (λ c. IsPlanned id c → Takes (asks_of state (record { number = number; id = id; command = c })) given
    → refusal_of state (record { number = number; id = id; command = c }) now given ≡ None
    → IsSound state (change_of state (record { number = number; id = id; command = c }) now given) now)
    (record {
      next = λ c is_one no planned takes none. commits_sound c is_one planned takes none;
      new_volume = λ new planned takes none. commits_sound (Lvcreate new) refl planned takes none;
      new_pv = λ pv copies planned takes none.
          (pvcreate_can_make state is (unwrap_or id []) pv copies now, pvcreate_lies_on state is (unwrap_or id []) pv copies none);
      new_group = λ vg extent_size pvs planned takes none.
          vgcreate_sound state is (empty_group (unwrap_or id []) vg extent_size) pvs now state.group none;
      joining = λ vg pvs planned takes none. vgextend_sound state is vg pvs now state.group refl none;
      leaving = λ vg pv planned takes none. leaves_sound state is (vgreduce_change state pv) now (leaves_next state vg pv now none);
      removal = λ vg planned takes none. none_sound state (set_of state.disk_of) [] now;
      restore = λ vg text planned takes none. restore_sound state is vg now none;
    }) id command planned planned takes none
  where
    commits_sound : (c : Command) → is_next c ≡ true → IsPlanned id c
        → Takes (asks_of state (record { number = number; id = id; command = c })) given
        → refusal_of state (record { number = number; id = id; command = c }) now given ≡ None
        → IsSound state (change_of state (record { number = number; id = id; command = c }) now given) now
    commits_sound c is_one planned takes none =
        next_sound state is (change_of state (record { number = number; id = id; command = c }) now given) now
        (commits_next state number id c now given planned is_one takes none)

pub can_make : (state : GroupState) (line : Line) (now : ℕ) (given : List Part) → IsState state → IsPlanned line.id line.command
    → Takes (asks_of state line) given → refusal_of state line now given ≡ None → CanMake state.areas (change_of state line now given) now
can_make state line now given is planned takes none = (sound_by state is line.number line.id line.command now given planned takes none).0

pub lies_on : (state : GroupState) (line : Line) (now : ℕ) (given : List Part) → IsState state → IsPlanned line.id line.command
    → Takes (asks_of state line) given → refusal_of state line now given ≡ None
    → LiesOn (sizes_of state.disks) state.areas (change_of state line now given)
lies_on state line now given is planned takes none = (sound_by state is line.number line.id line.command now given planned takes none).1
