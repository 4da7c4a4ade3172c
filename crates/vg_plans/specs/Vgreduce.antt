-- vgreduce(8): the rows of its refusals, and its change.
use Rattle.std.specs.Prelude.{ℕ, ◌==◌, List, [], ◌∷◌, ◌++◌, length, slice_index, Option, Some}
use Rattle.std.specs.Option.{option_map_or}
use Rattle.std.specs.List.{remove}
use Rattle.line_answers.specs.declared.op_refusal.OpRefusal.{OpRefusal}
use Rattle.line_answers.specs.declared.op_refusal.OpRefusal.TheVariants.{InUse, LastPv, NotInGroup}
use Rattle.meta_model.specs.declared.group.Group.{Group}
use Rattle.group_edits.specs.ReducedGroup.{has_leg_on_pv, reduced_group}
use Rattle.group_plan.specs.Committing.{change_where_found, length_row_on, no_change, rows_where_found, seqno_row, version_change_on}
use Rattle.group_plan.specs.Judging.{area_row, refused_if, set_of, unknown_row}
use Rattle.group_plan.specs.Members.{pv_named}
use Rattle.group_plan.specs.declared.state.Change.{Change}
use Rattle.group_plan.specs.declared.state.GroupState.{GroupState}
use Rattle.vg_plans.specs.Vgextend.{group_rows}

-- the rows on the physical volume with this number and name: it has a leg, or is the only one; or the group can't have a next
-- version without it
abbrev pub leaving_tests : GroupState → Group → List ℕ → ℕ → List (Option OpRefusal)
leaving_tests state group name number =
    refused_if (has_leg_on_pv group number) (InUse name)
    ∷ refused_if (length group.pvs == 1) (LastPv name)
    ∷ area_row state.areas (remove state.disk_of number)
    ∷ seqno_row group
    ∷ []

-- these, and the text without it is too long
abbrev pub leaving_rows : GroupState → Group → List ℕ → ℕ → ℕ → List (Option OpRefusal)
leaving_rows state group name now number =
    leaving_tests state group name number ++ length_row_on state (remove state.disk_of number) (reduced_group group number) now ∷ []

-- the rows where this group was found: those on the group; no physical volume is on the disk; the group doesn't list it; and those
-- where it does
abbrev pub reduce_rows : GroupState → List ℕ → List ℕ → ℕ → Group → List (Option OpRefusal)
reduce_rows state vg name now group =
    group_rows group vg
    ++ unknown_row state (name ∷ [])
    ∷ option_map_or (leaving_rows state group name now) (pv_named state name) (Some (NotInGroup name) ∷ [])

-- all rows
abbrev pub vgreduce_rows : GroupState → List ℕ → List ℕ → ℕ → List (Option OpRefusal)
vgreduce_rows state vg name now = rows_where_found state.group vg (reduce_rows state vg name now)

-- the group without the physical volume with this number is committed to the other disks, and its own is cleared
abbrev pub leaving_change : GroupState → Group → ℕ → Change
leaving_change state group number =
    record (version_change_on (remove state.disk_of number) (reduced_group group number))
    { cleared = set_of (slice_index state.disk_of number ∷ []) }

-- the physical volume on the disk with this name leaves this group
abbrev pub reduce_change : GroupState → List ℕ → Group → Change
reduce_change state name group = option_map_or (leaving_change state group) (pv_named state name) (no_change state)

-- it leaves the group that was found
abbrev pub vgreduce_change : GroupState → List ℕ → Change
vgreduce_change state name = change_where_found state (reduce_change state name)
