-- lvrename(8): the rows of its refusals, and its change.
use Rattle.std.specs.Prelude.{ℕ, List, [], ◌∷◌, ◌++◌, Option}
use Rattle.line_answers.specs.declared.op_refusal.OpRefusal.{OpRefusal}
use Rattle.meta_model.specs.declared.group.Group.{Group}
use Rattle.meta_model.specs.declared.lv.Lv.{Lv}
use Rattle.group_edits.specs.RenamedVolume.{renamed_volume}
use Rattle.group_plan.specs.Committing.{change_where_found, length_row, named_rows, no_area_row, rows_where_found, seqno_row}
use Rattle.group_plan.specs.Committing.{version_change}
use Rattle.group_plan.specs.declared.state.Change.{Change}
use Rattle.group_plan.specs.declared.state.GroupState.{GroupState}
use Rattle.lv_plans.specs.Volumes.{locked_row, rows_on, taken_row}

-- the rows on the volume with this number
abbrev pub rename_lv_rows : GroupState → List ℕ → List ℕ → ℕ → Group → ℕ × Lv → List (Option OpRefusal)
rename_lv_rows state old new now group volume =
    taken_row group new
    ∷ locked_row group old volume.0
    ∷ no_area_row state
    ∷ seqno_row group
    ∷ length_row state (renamed_volume old new group) now
    ∷ []

-- the rows where this group was found
abbrev pub rename_in_rows : GroupState → List ℕ → List ℕ → List ℕ → ℕ → Group → List (Option OpRefusal)
rename_in_rows state vg old new now group = named_rows group vg ++ rows_on group old (rename_lv_rows state old new now group)

-- all rows
abbrev pub lvrename_rows : GroupState → List ℕ → List ℕ → List ℕ → ℕ → List (Option OpRefusal)
lvrename_rows state vg old new now = rows_where_found state.group vg (rename_in_rows state vg old new now)

-- the volume of the old name has the new one
abbrev pub lvrename_change : GroupState → List ℕ → List ℕ → Change
lvrename_change state old new = change_where_found state (λ group. version_change state (renamed_volume old new group))
