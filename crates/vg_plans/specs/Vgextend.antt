-- vgextend(8): the rows of its refusals, and its change.
use Rattle.std.specs.Prelude.{ℕ, ◌+◌, not, List, [], ◌∷◌, ◌++◌, length, find, Option, option_map, Some, None}
use Rattle.line_answers.specs.declared.op_refusal.OpRefusal.{OpRefusal}
use Rattle.line_answers.specs.declared.op_refusal.OpRefusal.TheVariants.{IdTaken, NotResizeable}
use Rattle.meta_model.specs.declared.group.Group.{Group}
use Rattle.group_edits.specs.NextVersion.{next_version}
use Rattle.group_plan.specs.Added.{added_of, disks_added}
use Rattle.group_plan.specs.Ids.{has_other_id}
use Rattle.group_plan.specs.Judging.{area_row, many_row, refused_if, small_row, unknown_row, used_row}
use Rattle.group_plan.specs.NewGroup.{change_with, text_row}
use Rattle.group_plan.specs.Committing.{named_rows, rows_where_found, seqno_row, no_change}
use Rattle.group_plan.specs.declared.added.AddedPv.{AddedPv}
use Rattle.group_plan.specs.declared.state.Change.{Change}
use Rattle.group_plan.specs.declared.state.GroupState.{GroupState}

-- the first physical volume whose id is that of the group or of a logical volume
unfoldable pub other_id_row : Group → List AddedPv → Option OpRefusal
other_id_row group all =
    option_map (λ (added : AddedPv). IdTaken added.header.id) (find (λ (added : AddedPv). has_other_id group added.header.id) all)

-- the group has another name, may not be changed, or takes no further physical volume
abbrev pub group_rows : Group → List ℕ → List (Option OpRefusal)
group_rows group vg =
    named_rows group vg
    ++ refused_if (not group.status.resizeable) NotResizeable
    ∷ []

-- the rows on the physical volumes that are added
abbrev pub extend_rows : GroupState → Group → List AddedPv → List (Option OpRefusal)
extend_rows state group all =
    used_row state.disk_of all
    ∷ area_row state.areas (state.disk_of ++ disks_added all)
    ∷ small_row group.extent_size all
    ∷ many_row 64 group.max_pv (length group.pvs + length all)
    ∷ seqno_row group
    ∷ other_id_row group all
    ∷ []

-- the rows where this group was found: those on the group; a disk isn't known; those on the physical volumes; and the text is
-- too long
abbrev pub found_rows : GroupState → List ℕ → List (List ℕ) → ℕ → Group → List (Option OpRefusal)
found_rows state vg names now group =
    group_rows group vg
    ++ unknown_row state names
    ∷ extend_rows state group (added_of state names)
    ++ text_row state (next_version group) state.disk_of (added_of state names) now
    ∷ []

-- no group was found, or the rows where one was
abbrev pub vgextend_rows : GroupState → List ℕ → List (List ℕ) → ℕ → List (Option OpRefusal)
vgextend_rows state vg names now = rows_where_found state.group vg (found_rows state vg names now)

-- the physical volumes follow those of the group, and its next version is committed
abbrev pub vgextend_change : GroupState → Group → List (List ℕ) → Change
vgextend_change state group names = change_with (next_version group) state.disk_of (added_of state names)

-- the group, where there is one, has these too
abbrev pub extend_by : GroupState → Option Group → List (List ℕ) → Change
extend_by state None pvs = no_change state
extend_by state (Some group) pvs = vgextend_change state group pvs
