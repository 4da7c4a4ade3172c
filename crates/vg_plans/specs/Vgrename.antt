-- vgrename(8): the rows of its refusals, and its change.
use Rattle.std.specs.Prelude.{ℕ, List, [], ◌∷◌, ◌++◌, Option}
use Rattle.std.specs.Str.{bytes_eq}
use Rattle.line_answers.specs.declared.op_refusal.OpRefusal.{OpRefusal}
use Rattle.line_answers.specs.declared.op_refusal.OpRefusal.TheVariants.{NameTaken}
use Rattle.meta_model.specs.declared.group.Group.{Group}
use Rattle.group_edits.specs.RenamedGroup.{renamed_group}
use Rattle.group_plan.specs.Committing.{change_where_found, length_row, named_rows, no_area_row, rows_where_found, seqno_row}
use Rattle.group_plan.specs.Committing.{version_change}
use Rattle.group_plan.specs.Judging.{refused_if}
use Rattle.group_plan.specs.declared.state.Change.{Change}
use Rattle.group_plan.specs.declared.state.GroupState.{GroupState}

-- the rows on the group: it has another name, may not be changed, has the new name already, or can't have a next version
abbrev pub rename_tests : GroupState → List ℕ → List ℕ → Group → List (Option OpRefusal)
rename_tests state vg new group =
    named_rows group vg
    ++ refused_if (bytes_eq group.name new) (NameTaken new)
    ∷ no_area_row state
    ∷ seqno_row group
    ∷ []

-- the rows where this group was found: those on the group; and its text with the new name is too long
abbrev pub rename_rows : GroupState → List ℕ → List ℕ → ℕ → Group → List (Option OpRefusal)
rename_rows state vg new now group = rename_tests state vg new group ++ length_row state (renamed_group group new) now ∷ []

-- all rows
abbrev pub vgrename_rows : GroupState → List ℕ → List ℕ → ℕ → List (Option OpRefusal)
vgrename_rows state vg new now = rows_where_found state.group vg (rename_rows state vg new now)

-- the group that was found has the new name
abbrev pub vgrename_change : GroupState → List ℕ → Change
vgrename_change state new = change_where_found state (λ group. version_change state (renamed_group group new))
