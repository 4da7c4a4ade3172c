-- vgcfgrestore(8): the rows of its refusals, and its change, by what the text gives.
use Rattle.std.specs.Prelude.{ℕ, Bool, not, ◌||◌, ◌==◌, nat_lt, if◌then◌else◌, List, [], ◌∷◌, ◌++◌, length, map, filter, codes, is_some}
use Rattle.std.specs.Prelude.{unwrap_or, Option, None, Some, option_map}
use Rattle.std.specs.List.{list_any}
use Rattle.std.specs.Option.{option_map_or}
use Rattle.std.specs.Ordering.{is_le, nat_cmp}
use Rattle.std.specs.Cmp.Lexicographic.{slice_cmp}
use Rattle.std.specs.Str.{bytes_eq}
use Rattle.lvm_id.specs.LvmId.{hyphen_form}
use Rattle.line_answers.specs.declared.op_refusal.OpRefusal.{OpRefusal}
use Rattle.line_answers.specs.declared.op_refusal.OpRefusal.TheVariants.{BadRule, BadText, MoveStands, OtherGroup, SeqnoEnd}
use Rattle.meta_model.specs.declared.group.Group.{Group}
use Rattle.meta_model.specs.declared.pv.Pv.{Pv}
use Rattle.volume_rules.specs.Moving.{has_move}
use Rattle.volume_rules.specs.Rules.{number_of}
use Rattle.volume_rules.specs.declared.rule.Rule.{Rule}
use Rattle.scan_rules.specs.Decision.{has_misplaced}
use Rattle.vg_found.specs.Disks.{disk_shape, disks_of}
use Rattle.vg_found.specs.declared.disk.Disk.{Disk}
use Rattle.group_edits.specs.RestoredGroup.{restored_group}
use Rattle.group_plan.specs.Committing.{change_where_found, length_row_on, named_rows, no_change, rows_where_found, seqno_row}
use Rattle.group_plan.specs.Committing.{version_change_on}
use Rattle.group_plan.specs.Ids.{has_pv_id}
use Rattle.group_plan.specs.Judging.{area_row, refused_if}
use Rattle.group_plan.specs.Stripes.{stripes_row}
use Rattle.group_plan.specs.declared.backup.Backup.{Backup}
use Rattle.group_plan.specs.declared.backup.Backup.TheVariants.{Broken, Sound, Unread}
use Rattle.group_plan.specs.declared.state.Change.{Change}
use Rattle.group_plan.specs.declared.state.GroupState.{GroupState}
use Rattle.vg_plans.specs.Limits.{limits_row}

-- ---- another group

-- the lesser of two texts in the order of their bytes
abbrev pub lesser : Option (List ℕ) → List ℕ → List ℕ
lesser None text = text
lesser (Some other) text = if is_le (slice_cmp nat_cmp other text) then other else text

-- the least of this one, if there is one, and these
abbrev pub least_of : Option (List ℕ) → List (List ℕ) → Option (List ℕ)
least_of least [] = least
least_of least (text ∷ texts) = least_of (Some (lesser least text)) texts

-- the ids of these physical volumes that the other group lacks
abbrev pub ids_lacked : Group → List (List ℕ × Pv) → List (List ℕ)
ids_lacked other pvs = map (λ (pv : List ℕ × Pv). pv.1.id) (filter (λ (pv : List ℕ × Pv). not (has_pv_id other pv.1.id)) pvs)

-- the least id of a physical volume of the one group that the other one lacks
abbrev pub id_lacked : Group → Group → Option (List ℕ)
id_lacked other group = least_of None (ids_lacked other group.pvs)

-- an id as it prints, and `-` where there is none
abbrev pub shown_id : Option (List ℕ) → List ℕ
shown_id id = unwrap_or (option_map hyphen_form id) (codes "-")

-- a physical volume of one of the groups isn't in the other
abbrev pub other_pvs_row : Option (List ℕ) → Option (List ℕ) → Option OpRefusal
other_pvs_row said found = refused_if (is_some said || is_some found) (OtherGroup (shown_id said) (shown_id found))

-- the text's group has another id, another name or other physical volumes than the group that was found
abbrev pub other_group_rows : Group → Group → List (Option OpRefusal)
other_group_rows said found =
    refused_if (not (bytes_eq said.id found.id)) (OtherGroup (hyphen_form said.id) (hyphen_form found.id))
    ∷ refused_if (not (bytes_eq said.name found.name)) (OtherGroup said.name found.name)
    ∷ other_pvs_row (id_lacked found said) (id_lacked said found)
    ∷ []

-- ---- refusals

-- the extents of the physical volume on this disk leave it, or meet sectors 0 to 7 or a metadata area
abbrev pub is_misshapen : Group → Disk → Bool
is_misshapen group disk = has_misplaced group (disk_shape disk)

-- those of one of the disks do: this counts as the rule behind the others
abbrev pub shape_row : Group → List Disk → Option OpRefusal
shape_row group disks = refused_if (list_any (is_misshapen group) disks) (BadRule 15)

-- the disks of those of its physical volumes that one of these disks holds
abbrev pub disks_held : Group → List Disk → List ℕ
disks_held said disks = filter (λ disk. nat_lt disk (length disks)) (disks_of said disks)

-- the rows on both groups: a move stands in one of them, none of the disks of the text's has a metadata area, pieces of its stripes
-- don't divide an extent, it has too many volumes or segments, or one of them has the last number of a version
abbrev pub both_rows : GroupState → Group → Group → List (Option OpRefusal)
both_rows state found said =
    refused_if (has_move found || has_move said) MoveStands
    ∷ area_row state.areas (disks_held said state.disks)
    ∷ stripes_row said
    ∷ limits_row said
    ∷ refused_if (found.seqno == 4294967295 || said.seqno == 4294967295) SeqnoEnd
    ∷ []

-- those where the text's group breaks this rule first
abbrev pub broken_rows : GroupState → Group → Group → Rule → List (Option OpRefusal)
broken_rows state found said rule = both_rows state found said ++ Some (BadRule (number_of rule)) ∷ []

-- those where it keeps all rules, before it is restored
abbrev pub sound_tests : GroupState → Group → Group → List (Option OpRefusal)
sound_tests state found said = both_rows state found said ++ shape_row said state.disks ∷ other_group_rows said found

-- these, and the restored text is too long
abbrev pub sound_rows : GroupState → Group → Group → ℕ → List (Option OpRefusal)
sound_rows state found said now =
    sound_tests state found said ++ length_row_on state (disks_of said state.disks) (restored_group found said) now ∷ []

-- those where the text gives none
abbrev pub unread_rows : Group → List ℕ → List (Option OpRefusal)
unread_rows found kind =
    refused_if (has_move found) MoveStands
    ∷ seqno_row found
    ∷ Some (BadText kind)
    ∷ []

-- those on what the text gives
abbrev pub backup_rows : GroupState → Group → Backup → ℕ → List (Option OpRefusal)
backup_rows state found (Unread kind) now = unread_rows found kind
backup_rows state found (Broken said rule) now = broken_rows state found said rule
backup_rows state found (Sound said) now = sound_rows state found said now

-- the rows where this group was found
abbrev pub restore_rows : GroupState → List ℕ → Backup → ℕ → Group → List (Option OpRefusal)
restore_rows state vg backup now found = named_rows found vg ++ backup_rows state found backup now

-- all rows, by what the text of the line gives
abbrev pub vgcfgrestore_rows : GroupState → List ℕ → ℕ → List (Option OpRefusal)
vgcfgrestore_rows state vg now =
    option_map_or (λ (backup : Backup). rows_where_found state.group vg (restore_rows state vg backup now)) state.backup []

-- ---- the change

-- the restored group, whose physical volumes are known on the disks by their ids
abbrev pub backup_change : GroupState → Backup → Group → Change
backup_change state (Unread kind) found = no_change state
backup_change state (Broken said rule) found = no_change state
backup_change state (Sound said) found = version_change_on (disks_of said state.disks) (restored_group found said)

-- the text's group takes the place of the one that was found
abbrev pub vgcfgrestore_change : GroupState → Change
vgcfgrestore_change state =
    option_map_or (λ (backup : Backup). change_where_found state (backup_change state backup)) state.backup (no_change state)
