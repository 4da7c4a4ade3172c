-- The version that a line commits has the volumes that its command makes of those that were found.
use Rattle.std.proofs.Common.{◌≡◌, ℕ, zero, suc, ◌+◌, ◌*◌, List, [], ◌∷◌, ◌++◌, map, Option, Some, None, true, false, refl, sym, ap, subst}
use Rattle.std.proofs.Common.{◌∙◌}
use Rattle.std.specs.Prelude.{IfSome, IsSomeAnd, option_map, slice_get, slice_index, unwrap_or}
use Rattle.std.specs.Option.{option_map_or}
use Rattle.std.proofs.lemmas.Option.{same_Some, slice_get-map}
use Rattle.std.specs.List.{remove}
use Rattle.command_table.specs.declared.amount.Amount.{Amount}
use Rattle.command_table.specs.declared.amount.Growth.{Growth}
use Rattle.command_table.specs.declared.command.Command.{Command}
use Rattle.command_table.specs.declared.command.Command.TheVariants.{Lvcreate, Lvextend, Lvreduce, Lvremove, Lvrename, Pvcreate}
use Rattle.command_table.specs.declared.command.Command.TheVariants.{Vgcfgrestore, Vgcreate, Vgextend, Vgreduce, Vgremove, Vgrename}
use Rattle.command_table.specs.declared.command.NewVolume.{NewVolume}
use Rattle.command_table.specs.declared.command.Path.{Path}
use Rattle.line_answers.specs.declared.op_refusal.OpRefusal.{OpRefusal}
use Rattle.line_answers.specs.declared.op_refusal.OpRefusal.TheVariants.{GroupStands, UnknownGroup, UnknownVolume}
use Rattle.lvm_script.specs.declared.line.Line.{Line}
use Rattle.disk_model.specs.Steps.{Image}
use Rattle.meta_model.specs.Standing.{HasTree}
use Rattle.meta_model.specs.declared.group.Group.{Group}
use Rattle.meta_model.specs.declared.lv.Lv.{Lv}
use Rattle.meta_model.specs.declared.pv.Pv.{Pv}
use Rattle.volume_rules.specs.Extents.{extents_of}
use Rattle.volume_rules.specs.Rules.{IsAccepted}
use Rattle.extent_alloc.specs.declared.part.Part.{Part}
use Rattle.scan_rules.specs.Decision.{Reading}
use Rattle.vg_found.specs.declared.found.Found.{Found}
use Rattle.vg_found.specs.Disks.{disk_with, disks_of}
use Rattle.vg_found.specs.Shape.{HasShape}
use Rattle.list_laws.proofs.Inserted.{slice_get-pushed}
use Rattle.group_edits.proofs.KeptPlaces.{primary_kept, with_pvs}
use Rattle.group_edits.proofs.RenamedPlaces.{primary_named}
use Rattle.group_edits.proofs.Visible.{named_is_visible}
use Rattle.group_edits.specs.LongerVolume.{longer_volume}
use Rattle.group_edits.specs.NewVolume.{new_lv}
use Rattle.group_edits.specs.NextVersion.{next_version}
use Rattle.group_edits.specs.Removing.{without_volume}
use Rattle.group_edits.specs.RenamedGroup.{renamed_group}
use Rattle.group_edits.specs.RenamedVolume.{renamed_volume}
use Rattle.group_edits.specs.ShortenedVolume.{shortened, shortened_volume}
use Rattle.group_edits.specs.Visible.{visible_named}
use Rattle.group_edits.specs.ReducedGroup.{has_leg_on_pv, reduced_group as without_pv}
use Rattle.group_edits.specs.RestoredGroup.{restored_group}
use Rattle.group_plan.specs.Added.{added_of, disks_added, pv_of}
use Rattle.group_plan.specs.Committing.{named_rows, no_change, version_change}
use Rattle.group_plan.specs.Judging.{first_refusal}
use Rattle.group_edits.specs.JoinedGroup.{free_number, names_in, pv_name}
use Rattle.group_plan.specs.NewGroup.{extended, with_added}
use Rattle.group_plan.specs.declared.added.AddedPv.{AddedPv}
use Rattle.group_plan.specs.declared.state.Change.{Change}
use Rattle.group_plan.specs.declared.state.GroupState.{GroupState}
use Rattle.group_plan.specs.declared.backup.Backup.{Backup}
use Rattle.vg_plans.specs.Vgextend.{extend_by}
use Rattle.vg_plans.specs.Vgcreate.{empty_group}
use Rattle.vg_plans.proofs.Leaving.{LeavesNext, leaves_next}
use Rattle.vg_plans.specs.Vgreduce.{vgreduce_change}
use Rattle.vg_plans.proofs.Restoring.{Restores, restores, sound_tree}
use Rattle.vg_plans.specs.Vgcfgrestore.{vgcfgrestore_change}
use Rattle.lv_plans.specs.Allocating.{Takes}
use Rattle.lv_plans.proofs.CreatedVolume.{Creates, creates}
use Rattle.lv_plans.specs.Lvcreate.{created_group, kind_for}
use Rattle.lv_plans.specs.Lvextend.{extend_in_rows, extend_lv_rows, lengthen_rows}
use Rattle.lv_plans.specs.Sizes.{kept_by}
use Rattle.lv_plans.specs.Lvreduce.{reduce_change, reduce_in_rows, reduce_lv_rows, reduced_group}
use Rattle.lv_plans.specs.Lvremove.{remove_change, remove_in_rows, remove_lv_rows}
use Rattle.lv_plans.specs.Lvrename.{rename_in_rows, rename_lv_rows}
use Rattle.lv_plans.specs.Volumes.{rows_on}
use Rattle.group_ops.specs.Laws.{state_in}
use Rattle.group_ops.proofs.NextVersions.{drawn_is}
use Rattle.group_ops.specs.Planning.{IsBackupOf, IsPlanned, asks_of, change_of, refusal_of}
use Rattle.image_scans.specs.Laws.{CanCarryOut, version_of}
use Rattle.vg_scan.specs.Versions.{Version, version_in}
use Rattle.image_scans.proofs.CommitLine.{settled}
use Rattle.image_scans.proofs.SettledBase.{IsSettledScan, copy_tree, settled_none, settled_some}
use Rattle.repair_scans.proofs.FoundGroup.{found_accepted}
use Rattle.volume_history.specs.Placed.{group_name, volumes_of}
use Rattle.volume_history.specs.Changing.{ChangesVolumes, changed_named, cut_to, has_named, named_so, without_named}
use Rattle.line_history.proofs.KeptVolumes.{KeepsDisks, volumes_kept}
use Rattle.line_history.proofs.LongerVolumes.{create_changes, extend_changes}
use Rattle.line_history.proofs.RemovedVolumes.{volumes_removed}
use Rattle.line_history.proofs.RenamedVolumes.{named_in, volumes_renamed}
use Rattle.line_history.proofs.ShortenedVolumes.{volumes_shortened}
use Rattle.line_history.proofs.LeftVolumes.{volumes_left}
use Rattle.line_history.proofs.ReadBackups.{some_backup}
use Rattle.line_history.proofs.RestoredVolumes.{restore_changes}

-- ---- lists

-- the image of an element, whatever follows the images
index_front : {X : Type 0} (f : X → ℕ) (xs : List X) (more : List ℕ) (k : ℕ) (x : X) → slice_get xs k ≡ Some x
    → slice_index (map f xs ++ more) k ≡ slice_index (map f xs) k
index_front f [] more k x there = absurd cc
index_front f (y ∷ xs) more zero x there = refl
index_front f (y ∷ xs) more (suc k) x there = index_front f xs more k x there

-- the physical volumes of a group keep their numbers where others are added
added_kept : (lvs : List (List ℕ × Lv)) (extent_size : ℕ) (pvs : List (List ℕ × Pv)) (all : List AddedPv) (k : ℕ) (pv : List ℕ × Pv)
    → slice_get pvs k ≡ Some pv → slice_get (with_added lvs extent_size pvs all) k ≡ Some pv
added_kept lvs extent_size pvs [] k pv is = is
added_kept lvs extent_size pvs (added ∷ more) k pv is =
    let row : List ℕ × Pv = (pv_name (free_number (names_in pvs lvs)), pv_of extent_size added) in
    added_kept lvs extent_size (pvs ++ row ∷ []) more k pv (slice_get-pushed pvs (row ∷ []) k pv is)

row_of : (P : List ℕ × Lv → Type 0) (o : Option (List ℕ × Lv)) → IsSomeAnd o P → (row : List ℕ × Lv) × (o ≡ Some row) × P row
row_of P None is = absurd is
row_of P (Some row) is = (row, refl, is)

-- ---- rows

-- no group was found where none may be
none_found : (vg : List ℕ) (rows : List (Option OpRefusal)) (o : Option Group)
    → first_refusal (option_map_or (λ (group : Group). Some (GroupStands group.name) ∷ []) o rows) ≡ None → o ≡ None
none_found vg rows None passes = refl
none_found vg rows (Some group) passes = absurd cc

-- a visible volume has the name where rows on it pass
named_by : (name : List ℕ) (rows : ℕ × Lv → List (Option OpRefusal)) (o : Option (ℕ × Lv))
    → first_refusal (option_map_or rows o (Some (UnknownVolume name) ∷ [])) ≡ None → (v : ℕ × Lv) × (o ≡ Some v)
named_by name rows None passes = absurd cc
named_by name rows (Some v) passes = (v, refl)

named_behind : (front : List (Option OpRefusal)) (group : Group) (name : List ℕ) (rows : ℕ × Lv → List (Option OpRefusal))
    → first_refusal (front ++ rows_on group name rows) ≡ None → (v : ℕ × Lv) × (visible_named group name ≡ Some v)
named_behind [] group name rows passes = named_by name rows (visible_named group name) passes
named_behind (None ∷ front) group name rows passes = named_behind front group name rows passes
named_behind (Some refusal ∷ front) group name rows passes = absurd cc

-- ---- the commands

module _ (found : Found) (names : List (List ℕ)) (backup : Option Backup) where
  abbrev state : GroupState
  state = state_in found names backup

  create_keeps : (id vg : List ℕ) (extent_size : ℕ) (pvs : List (List ℕ)) (change : Change) (group : Group) → found.group ≡ None
      → extended (empty_group id vg extent_size) (added_of state pvs) ≡ group
      → ChangesVolumes (Vgcreate vg extent_size pvs) (version_in found) (Some (version_of group change))
  unfolding extended volumes_of
  create_keeps id vg extent_size pvs change group none is =
      let before : version_in found ≡ None =
      ap (λ (o : Option Group). option_map (λ (g : Group). record { group = g; disk_of = disks_of g found.disks }) o) none in
      subst (λ (g : Group). ChangesVolumes (Vgcreate vg extent_size pvs) (version_in found) (Some (version_of g change))) is
      (sym (ap volumes_of before), refl)

  -- the version of a group that was found
  abbrev was : Group → Version
  was old = record { group = old; disk_of = disks_of old found.disks }

  version_found : (old : Group) → found.group ≡ Some old → version_in found ≡ Some (was old)
  version_found old there =
      ap (λ (o : Option Group). option_map (λ (g : Group). record { group = g; disk_of = disks_of g found.disks }) o) there

  -- what is made of it, where the change gives this one
  of_version : (command : Command) (next : Group)
      → ChangesVolumes command (version_in found) (Some (version_of next (version_change state next))) → (group : Group)
      → (version_change state next).group ≡ Some group
      → ChangesVolumes command (version_in found) (Some (version_of group (version_change state next)))
  of_version command next changes group is =
      subst (λ (g : Group). ChangesVolumes command (version_in found) (Some (version_of g (version_change state next))))
      (same_Some next group is) changes

  where_found : (command : Command) (change : Group → Change) (o : Option Group) → found.group ≡ o
      → ((old : Group) → found.group ≡ Some old → (group : Group) → (change old).group ≡ Some group
      → ChangesVolumes command (version_in found) (Some (version_of group (change old))))
      → (group : Group) → (option_map_or change o (no_change state)).group ≡ Some group
      → ChangesVolumes command (version_in found) (Some (version_of group (option_map_or change o (no_change state))))
  where_found command change None there changes group is = absurd cc
  where_found command change (Some old) there changes group is = changes old there group is

  -- so do its rows pass
  rows_pass : (vg : List ℕ) (rows : Group → List (Option OpRefusal)) (old : Group) → found.group ≡ Some old
      → first_refusal (option_map_or rows found.group (Some (UnknownGroup vg) ∷ [])) ≡ None → first_refusal (rows old) ≡ None
  rows_pass vg rows old there passes =
      subst (λ (o : Option Group). first_refusal (option_map_or rows o (Some (UnknownGroup vg) ∷ [])) ≡ None) there passes

  module _ (shape : HasShape found) (accepted : (group : Group) → found.group ≡ Some group → IsAccepted group)
      (trees : (group : Group) → found.group ≡ Some group → HasTree group) where
    listed : (old : Group) → found.group ≡ Some old → found.disk_of ≡ disks_of old found.disks
    listed old there = subst (λ (o : Option Group). IfSome o (λ g. found.disk_of ≡ disks_of g found.disks)) there shape.disk_of

    -- a next version on the same disks
    abbrev on_disks : Group → Version
    on_disks next = record { group = next; disk_of = found.disk_of }

    same_disks : (old next : Group) → found.group ≡ Some old → KeepsDisks (was old) (on_disks next)
    same_disks old next there k pv is = ap (λ (l : List ℕ). slice_index l k) (listed old there)

    -- vgextend: the group that was found gets physical volumes
    next_keeps : (vg : List ℕ) (pvs : List (List ℕ)) (old : Group) → found.group ≡ Some old
        → ChangesVolumes (Vgextend vg pvs) (version_in found)
        (Some (version_of (extended (next_version old) (added_of state pvs)) (extend_by state (Some old) pvs)))
    unfolding extended
    next_keeps vg pvs old there =
        let all : List AddedPv = added_of state pvs in
        let more : List (List ℕ × Pv) = with_added old.lvs old.extent_size old.pvs all in
        let after : Version = record { group = with_pvs old (old.seqno + 1) more; disk_of = found.disk_of ++ disks_added all } in
        let disks : KeepsDisks (was old) after =
        λ k pv is. ap (λ (l : List ℕ). slice_index (l ++ disks_added all) k) (listed old there)
        ∙ index_front (λ (pv : List ℕ × Pv). disk_with found.disks pv.1.id) old.pvs (disks_added all) k pv is
        in (
          volumes_kept (was old) after (accepted old there) disks refl
              (primary_kept old (old.seqno + 1) more (added_kept old.lvs old.extent_size old.pvs all)) refl
              ∙ sym (ap volumes_of (version_found old there)),
          sym (ap group_name (version_found old there)),
        )

    extend_keeps : (vg : List ℕ) (pvs : List (List ℕ)) (o : Option Group) → found.group ≡ o → (group : Group)
        → (extend_by state o pvs).group ≡ Some group
        → ChangesVolumes (Vgextend vg pvs) (version_in found) (Some (version_of group (extend_by state o pvs)))
    extend_keeps vg pvs None there group is = absurd cc
    extend_keeps vg pvs (Some old) there group is =
        subst (λ (g : Group). ChangesVolumes (Vgextend vg pvs) (version_in found) (Some (version_of g (extend_by state (Some old) pvs))))
        (same_Some (extended (next_version old) (added_of state pvs)) group is) (next_keeps vg pvs old there)

    -- vgrename: it has another name
    named_keeps : (vg new : List ℕ) (old : Group) → found.group ≡ Some old
        → ChangesVolumes (Vgrename vg new) (version_in found)
        (Some (version_of (renamed_group old new) (version_change state (renamed_group old new))))
    named_keeps vg new old there = (
      volumes_kept (was old) (on_disks (renamed_group old new)) (accepted old there) (same_disks old (renamed_group old new) there) refl
          (primary_named old new) refl ∙ sym (ap volumes_of (version_found old there)),
      refl,
    )

    -- vgreduce: a physical volume without legs has left
    leave_changes : (vg pv : List ℕ) (old : Group) (number : ℕ) → found.group ≡ Some old → has_leg_on_pv old number ≡ false
        → ChangesVolumes (Vgreduce vg pv) (version_in found)
        (Some (record { group = without_pv old number; disk_of = remove found.disk_of number }))
    leave_changes vg pv old number there unused = (
      ap (λ (l : List ℕ). volumes_of (Some (record { group = without_pv old number; disk_of = remove l number }))) (listed old there)
          ∙ volumes_left (was old) number unused (accepted old there)
          (λ k row is. (
            disk_with found.disks row.1.id,
            slice_get-map (λ (r : List ℕ × Pv). disk_with found.disks r.1.id) old.pvs k
                ∙ ap (option_map (λ (r : List ℕ × Pv). disk_with found.disks r.1.id)) is,
          ))
          ∙ sym (ap volumes_of (version_found old there)),
      sym (ap group_name (version_found old there)),
    )

    left_by : (vg pv : List ℕ) (change : Change) (now : ℕ) → LeavesNext state change now → (group : Group) → change.group ≡ Some group
        → ChangesVolumes (Vgreduce vg pv) (version_in found) (Some (version_of group change))
    left_by vg pv change now left =
        subst (λ (c : Change). (group : Group) → c.group ≡ Some group
        → ChangesVolumes (Vgreduce vg pv) (version_in found) (Some (version_of group c))) (sym left.change_is)
        (λ group is.
        subst (λ (g : Group). ChangesVolumes (Vgreduce vg pv) (version_in found)
        (Some (record { group = g; disk_of = remove found.disk_of left.number })))
        (same_Some (without_pv left.old left.number) group is)
        (leave_changes vg pv left.old left.number left.there left.may.unused))

    -- lvrename: a visible volume has another name
    rename_changes : (vg name new : List ℕ) (old : Group) → found.group ≡ Some old → (v : ℕ × Lv) → visible_named old name ≡ Some v
        → ChangesVolumes (Lvrename vg name new) (version_in found)
        (Some (version_of (renamed_volume name new old) (version_change state (renamed_volume name new old))))
    rename_changes vg name new old there v seen = (
      volumes_renamed name new (was old) found.disk_of (accepted old there) (same_disks old (renamed_volume name new old) there)
          (trees old there) v seen
          ∙ sym (ap (λ (version : Option Version). changed_named name (named_so new) (volumes_of version)) (version_found old there)),
      ap (λ (version : Option Version). has_named name (volumes_of version)) (version_found old there) ∙ named_in (was old) name v seen,
      sym (ap group_name (version_found old there)),
    )

    -- lvremove: it is gone
    remove_changes : (path : Path) (old : Group) → found.group ≡ Some old → (v : ℕ × Lv) → visible_named old path.lv ≡ Some v
        → ChangesVolumes (Lvremove path) (version_in found)
        (Some (version_of (without_volume old v.0) (version_change state (without_volume old v.0))))
    remove_changes path old there v seen =
        let row = row_of (λ (r : List ℕ × Lv). r.1.status.visible ≡ true) (slice_get old.lvs v.0) (named_is_visible old path.lv v seen) in (
          volumes_removed (was old) found.disk_of v.0 (accepted old there) row.0 row.1 row.2 (same_disks old (without_volume old v.0) there)
              path.lv v.1 seen
              ∙ sym (ap (λ (version : Option Version). without_named path.lv (volumes_of version)) (version_found old there)),
          ap (λ (version : Option Version). has_named path.lv (volumes_of version)) (version_found old there)
              ∙ named_in (was old) path.lv v seen,
          sym (ap group_name (version_found old there)),
        )

    removed_by : (path : Path) (old : Group) → found.group ≡ Some old → (v : ℕ × Lv) → visible_named old path.lv ≡ Some v → (group : Group)
        → (remove_change state path.lv old).group ≡ Some group
        → ChangesVolumes (Lvremove path) (version_in found) (Some (version_of group (remove_change state path.lv old)))
    removed_by path old there v seen =
        subst (λ (change : Change). (group : Group) → change.group ≡ Some group
        → ChangesVolumes (Lvremove path) (version_in found) (Some (version_of group change)))
        (sym (ap (λ (o : Option (ℕ × Lv)). option_map_or (λ (x : ℕ × Lv). version_change state (without_volume old x.0)) o
        (no_change state)) seen))
        (of_version (Lvremove path) (without_volume old v.0) (remove_changes path old there v seen))

    -- lvreduce: it has its first extents alone
    reduce_changes : (path : Path) (amount : Amount) (old : Group) → found.group ≡ Some old → (v : ℕ × Lv)
        → visible_named old path.lv ≡ Some v
        → ChangesVolumes (Lvreduce path amount) (version_in found)
        (Some (version_of (reduced_group path.lv amount old v.1) (version_change state (reduced_group path.lv amount old v.1))))
    reduce_changes path amount old there v seen =
        let left : ℕ = kept_by old.extent_size amount v.1 in
        let sectors : ℕ = extents_of (shortened left v.1) * old.extent_size in (
          sectors,
          volumes_shortened path.lv left (was old) found.disk_of (accepted old there)
              (same_disks old (shortened_volume path.lv left old) there) (trees old there) v seen
              ∙ sym (ap (λ (version : Option Version). changed_named path.lv (cut_to sectors) (volumes_of version))
              (version_found old there)),
          ap (λ (version : Option Version). has_named path.lv (volumes_of version)) (version_found old there)
              ∙ named_in (was old) path.lv v seen,
          sym (ap group_name (version_found old there)),
        )

    reduced_by : (path : Path) (amount : Amount) (old : Group) → found.group ≡ Some old → (v : ℕ × Lv) → visible_named old path.lv ≡ Some v
        → (group : Group) → (reduce_change state path.lv amount old).group ≡ Some group
        → ChangesVolumes (Lvreduce path amount) (version_in found) (Some (version_of group (reduce_change state path.lv amount old)))
    reduced_by path amount old there v seen =
        subst (λ (change : Change). (group : Group) → change.group ≡ Some group
        → ChangesVolumes (Lvreduce path amount) (version_in found) (Some (version_of group change)))
        (sym (ap (λ (o : Option (ℕ × Lv)). option_map_or (λ (x : ℕ × Lv). version_change state (reduced_group path.lv amount old x.1)) o
        (no_change state)) seen))
        (of_version (Lvreduce path amount) (reduced_group path.lv amount old v.1) (reduce_changes path amount old there v seen))

    -- lvextend: it has more behind its own extents
    extended_by : (path : Path) (growth : Growth) (pvs : List (List ℕ)) (given : List Part) (old : Group) → found.group ≡ Some old
        → (v : ℕ × Lv) → visible_named old path.lv ≡ Some v
        → ChangesVolumes (Lvextend path growth pvs) (version_in found)
        (Some (version_of (longer_volume path.lv given old) (version_change state (longer_volume path.lv given old))))
    extended_by path growth pvs given old there v seen =
        subst (λ (before : Option Version). ChangesVolumes (Lvextend path growth pvs) before
        (Some (on_disks (longer_volume path.lv given old)))) (sym (version_found old there))
        (extend_changes path.lv given (was old) found.disk_of (accepted old there)
        (same_disks old (longer_volume path.lv given old) there) (trees old there) v seen)

    -- vgcfgrestore: the volumes of its text
    restored_by : (vg text : List ℕ) (change : Change) (now : ℕ) → IsBackupOf (Vgcfgrestore vg text) backup → Restores state change now
        → (group : Group) → change.group ≡ Some group
        → ChangesVolumes (Vgcfgrestore vg text) (version_in found) (Some (version_of group change))
    restored_by vg text change now gives_back made =
        let sound = sound_tree text made.said (subst (λ (b : Option Backup). IsBackupOf (Vgcfgrestore vg text) b) made.gives gives_back) in
        let whole = made.whole (accepted made.old made.there) sound.0 sound.1 in
        subst (λ (c : Change). (group : Group) → c.group ≡ Some group
        → ChangesVolumes (Vgcfgrestore vg text) (version_in found) (Some (version_of group c))) (sym made.change_is)
        (λ group is.
        subst (λ (g : Group). ChangesVolumes (Vgcfgrestore vg text) (version_in found)
        (Some (record { group = g; disk_of = disks_of made.said found.disks })))
        (same_Some (restored_group made.old made.said) group is)
        (subst (λ (before : Option Version). ChangesVolumes (Vgcfgrestore vg text) before
        (Some (record { group = restored_group made.old made.said; disk_of = disks_of made.said found.disks })))
        (sym (version_found made.old made.there))
        (restore_changes vg text (was made.old) made.said (disks_of made.said found.disks) (trees made.old made.there) whole.accepted
        made.same_name)))

    -- lvcreate: there is one volume more
    created_by : (id : List ℕ) (new : NewVolume) (now : ℕ) (given : List Part) (made : Creates state id new now given)
        → ChangesVolumes (Lvcreate new) (version_in found)
        (Some (version_of (created_group id new now given made.old) (version_change state (created_group id new now given made.old))))
    created_by id new now given made =
        subst (λ (before : Option Version). ChangesVolumes (Lvcreate new) before
        (Some (on_disks (created_group id new now given made.old)))) (sym (version_found made.old made.there))
        (create_changes new.lv (new_lv id (kind_for new) given now) (was made.old) found.disk_of (accepted made.old made.there)
        (same_disks made.old (created_group id new now given made.old) made.there) refl made.free)

    -- the rows of an lvextend on its volume
    abbrev extend_rows_on : Path → Growth → List (List ℕ) → ℕ → List Part → Group → ℕ × Lv → List (Option OpRefusal)
    extend_rows_on path growth pvs now given old volume =
        extend_lv_rows state path.lv growth pvs old volume ++ lengthen_rows state path.lv now old given

    by_command : (number : ℕ) (id : Option (List ℕ)) (command : Command) (now : ℕ) (given : List Part) → IsPlanned id command
        → IsBackupOf command backup → Takes (asks_of state (record { number = number; id = id; command = command })) given
        → refusal_of state (record { number = number; id = id; command = command }) now given ≡ None
        → (group : Group) → (change_of state (record { number = number; id = id; command = command }) now given).group ≡ Some group
        → ChangesVolumes command (version_in found)
        (Some (version_of group (change_of state (record { number = number; id = id; command = command }) now given)))
    by_command number id (Pvcreate pv copies) now given planned gives_back takes passes group is = absurd cc
    by_command number id (Vgcreate vg extent_size pvs) now given planned gives_back takes passes group is =
        create_keeps (unwrap_or id []) vg extent_size pvs
        (change_of state (record { number = number; id = id; command = Vgcreate vg extent_size pvs }) now given) group
        (none_found vg _ found.group passes)
        (same_Some (extended (empty_group (unwrap_or id []) vg extent_size) (added_of state pvs)) group is)
    by_command number id (Vgextend vg pvs) now given planned gives_back takes passes group is =
        extend_keeps vg pvs found.group refl group is
    by_command number id (Vgreduce vg pv) now given planned gives_back takes passes group is =
        left_by vg pv (vgreduce_change state pv) now (leaves_next state vg pv now passes) group is
    by_command number id (Vgremove vg) now given planned gives_back takes passes group is = absurd cc
    by_command number id (Vgrename vg new) now given planned gives_back takes passes group is =
        where_found (Vgrename vg new) (λ g. version_change state (renamed_group g new)) found.group refl
        (λ old there. of_version (Vgrename vg new) (renamed_group old new) (named_keeps vg new old there)) group is
    by_command number id (Lvrename vg name new) now given planned gives_back takes passes group is =
        where_found (Lvrename vg name new) (λ g. version_change state (renamed_volume name new g)) found.group refl
        (λ old there.
        let seen =
        named_behind (named_rows old vg) old name (rename_lv_rows state name new now old)
        (rows_pass vg (rename_in_rows state vg name new now) old there passes) in
        of_version (Lvrename vg name new) (renamed_volume name new old) (rename_changes vg name new old there seen.0 seen.1))
        group is
    by_command number id (Lvremove path) now given planned gives_back takes passes group is =
        where_found (Lvremove path) (remove_change state path.lv) found.group refl
        (λ old there.
        let seen =
        named_behind (named_rows old path.vg) old path.lv (remove_lv_rows state path.lv now old)
        (rows_pass path.vg (remove_in_rows state path now) old there passes) in
        removed_by path old there seen.0 seen.1)
        group is
    by_command number id (Lvcreate new) now given planned gives_back takes passes group is =
        let own : List ℕ = unwrap_or id [] in
        let made : Creates state own new now given =
        creates state own new now given (drawn_is id planned.0) planned.1 found.group refl takes passes in
        subst (λ (change : Change). (g : Group) → change.group ≡ Some g
        → ChangesVolumes (Lvcreate new) (version_in found) (Some (version_of g change))) (sym made.change_is)
        (of_version (Lvcreate new) (created_group own new now given made.old) (created_by own new now given made)) group is
    by_command number id (Lvextend path growth pvs) now given planned gives_back takes passes group is =
        where_found (Lvextend path growth pvs) (λ g. version_change state (longer_volume path.lv given g)) found.group refl
        (λ old there.
        let seen =
        named_behind (named_rows old path.vg) old path.lv (extend_rows_on path growth pvs now given old)
        (rows_pass path.vg (λ g. extend_in_rows state path growth pvs now g given) old there passes) in
        of_version (Lvextend path growth pvs) (longer_volume path.lv given old) (extended_by path growth pvs given old there seen.0 seen.1))
        group is
    by_command number id (Lvreduce path amount) now given planned gives_back takes passes group is =
        where_found (Lvreduce path amount) (reduce_change state path.lv amount) found.group refl
        (λ old there.
        let seen =
        named_behind (named_rows old path.vg) old path.lv (reduce_lv_rows state path.lv amount now old)
        (rows_pass path.vg (reduce_in_rows state path amount now) old there passes) in
        reduced_by path amount old there seen.0 seen.1)
        group is
    by_command number id (Vgcfgrestore vg text) now given planned gives_back takes passes group is =
        restored_by vg text (vgcfgrestore_change state) now gives_back
        (restores state vg now (some_backup vg text backup gives_back) passes) group is
    by_command number id command now given planned gives_back takes passes group is = absurd planned

-- ---- the line

-- a tree stands for the group that was found
found_tree : (readings : List Reading) (found : Found) → IsSettledScan readings found → (group : Group) → found.group ≡ Some group
    → HasTree group
found_tree readings found (settled_none nothing none given) group is =
    absurd (let e : ◌≡◌ {A = Option Group} None (Some group) = sym none ∙ is in cc)
found_tree readings found (settled_some held parts some copy given all) group is =
    subst HasTree (same_Some held.group group (sym some ∙ is)) (copy_tree held.text held.group held.passed copy)

pub commit_changes_volumes : (base : Image) (sizes : List ℕ) (found : Found) (names : List (List ℕ)) (backup : Option Backup) (line : Line)
    (now : ℕ) (given : List Part) → CanCarryOut base sizes found names backup line now given → (group : Group)
    → (change_of (state_in found names backup) line now given).group ≡ Some group
    → ChangesVolumes line.command (version_in found) (Some (version_of group (change_of (state_in found names backup) line now given)))
commit_changes_volumes base sizes found names backup line now given p group is =
    by_command found names backup p.shape (found_accepted base sizes found p.scan)
    (found_tree p.scan.readings found (settled base sizes found names backup line now given p)) line.number line.id line.command now
    given p.planned p.given_back p.takes p.passes group is
