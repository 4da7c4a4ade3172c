-- lvremove(8): the rows of its refusals, and its change.
use Rattle.std.specs.Prelude.{ℕ, List, [], ◌∷◌, ◌++◌, Option}
use Rattle.std.specs.Option.{option_map_or}
use Rattle.command_table.specs.declared.command.Path.{Path}
use Rattle.line_answers.specs.declared.op_refusal.OpRefusal.{OpRefusal}
use Rattle.meta_model.specs.declared.group.Group.{Group}
use Rattle.meta_model.specs.declared.lv.Lv.{Lv}
use Rattle.group_edits.specs.Removing.{without_volume}
use Rattle.group_edits.specs.Visible.{visible_named}
use Rattle.group_plan.specs.Committing.{change_where_found, length_row, named_rows, no_area_row, no_change, rows_where_found, seqno_row}
use Rattle.group_plan.specs.Committing.{version_change}
use Rattle.group_plan.specs.declared.state.Change.{Change}
use Rattle.group_plan.specs.declared.state.GroupState.{GroupState}
use Rattle.lv_plans.specs.Volumes.{locked_row, rows_on}

-- the rows on the volume with this number
abbrev pub remove_lv_rows : GroupState → List ℕ → ℕ → Group → ℕ × Lv → List (Option OpRefusal)
remove_lv_rows state name now group volume =
    locked_row group name volume.0
    ∷ no_area_row state
    ∷ seqno_row group
    ∷ length_row state (without_volume group volume.0) now
    ∷ []

-- the rows where this group was found
abbrev pub remove_in_rows : GroupState → Path → ℕ → Group → List (Option OpRefusal)
remove_in_rows state path now group = named_rows group path.vg ++ rows_on group path.lv (remove_lv_rows state path.lv now group)

-- all rows
abbrev pub lvremove_rows : GroupState → Path → ℕ → List (Option OpRefusal)
lvremove_rows state path now = rows_where_found state.group path.vg (remove_in_rows state path now)

-- this group is without the visible volume of this name, where it has one
abbrev pub remove_change : GroupState → List ℕ → Group → Change
remove_change state name group =
    option_map_or (λ (volume : ℕ × Lv). version_change state (without_volume group volume.0)) (visible_named group name) (no_change state)

-- so is the group that was found
abbrev pub lvremove_change : GroupState → List ℕ → Change
lvremove_change state name = change_where_found state (remove_change state name)
