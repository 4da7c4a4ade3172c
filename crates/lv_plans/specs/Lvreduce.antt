-- lvreduce(8): the rows of its refusals, and its change.
use Rattle.std.specs.Prelude.{ℕ, nat_le, List, [], ◌∷◌, ◌++◌, Option}
use Rattle.std.specs.Option.{option_map_or}
use Rattle.command_table.specs.declared.amount.Amount.{Amount}
use Rattle.command_table.specs.declared.command.Path.{Path}
use Rattle.line_answers.specs.declared.op_refusal.OpRefusal.{OpRefusal}
use Rattle.line_answers.specs.declared.op_refusal.OpRefusal.TheVariants.{NotShorter}
use Rattle.meta_model.specs.declared.group.Group.{Group}
use Rattle.meta_model.specs.declared.lv.Lv.{Lv}
use Rattle.volume_rules.specs.Extents.{extents_of}
use Rattle.group_edits.specs.ShortenedVolume.{shortened_volume}
use Rattle.group_edits.specs.Visible.{visible_named}
use Rattle.group_plan.specs.Committing.{change_where_found, length_row, named_rows, no_area_row, no_change, rows_where_found, seqno_row}
use Rattle.group_plan.specs.Committing.{version_change}
use Rattle.group_plan.specs.Judging.{refused_if}
use Rattle.group_plan.specs.declared.state.Change.{Change}
use Rattle.group_plan.specs.declared.state.GroupState.{GroupState}
use Rattle.lv_plans.specs.Sizes.{kept_by}
use Rattle.lv_plans.specs.Volumes.{layered_row, locked_row, rows_on}

-- this group, in which this volume of this name keeps so much
abbrev pub reduced_group : List ℕ → Amount → Group → Lv → Group
reduced_group name amount group lv = shortened_volume name (kept_by group.extent_size amount lv) group

-- a volume with so many extents would keep as many, or more
abbrev pub shorter_row : ℕ → ℕ → Option OpRefusal
shorter_row kept has = refused_if (nat_le has kept) (NotShorter kept has)

-- the rows on the volume with this number
abbrev pub reduce_lv_rows : GroupState → List ℕ → Amount → ℕ → Group → ℕ × Lv → List (Option OpRefusal)
reduce_lv_rows state name amount now group volume =
    locked_row group name volume.0
    ∷ layered_row name volume.1
    ∷ no_area_row state
    ∷ shorter_row (kept_by group.extent_size amount volume.1) (extents_of volume.1)
    ∷ seqno_row group
    ∷ length_row state (reduced_group name amount group volume.1) now
    ∷ []

-- the rows where this group was found
abbrev pub reduce_in_rows : GroupState → Path → Amount → ℕ → Group → List (Option OpRefusal)
reduce_in_rows state path amount now group =
    named_rows group path.vg ++ rows_on group path.lv (reduce_lv_rows state path.lv amount now group)

-- all rows
abbrev pub lvreduce_rows : GroupState → Path → Amount → ℕ → List (Option OpRefusal)
lvreduce_rows state path amount now = rows_where_found state.group path.vg (reduce_in_rows state path amount now)

-- the visible volume of this name, where this group has one, keeps so much
abbrev pub reduce_change : GroupState → List ℕ → Amount → Group → Change
reduce_change state name amount group =
    option_map_or (λ (volume : ℕ × Lv). version_change state (reduced_group name amount group volume.1)) (visible_named group name)
    (no_change state)

-- so it does in the group that was found
abbrev pub lvreduce_change : GroupState → List ℕ → Amount → Change
lvreduce_change state name amount = change_where_found state (reduce_change state name amount)
