-- lvextend(8): the rows of its refusals, and its change.
use Rattle.std.specs.Prelude.{ℕ, false, nat_le, List, [], ◌∷◌, ◌++◌, length, Option, None, option_map, option_and_then}
use Rattle.std.specs.FinSet as set
use Rattle.std.specs.Ordering.{nat_cmp}
use Rattle.command_table.specs.declared.amount.Growth.{Growth}
use Rattle.command_table.specs.declared.amount.Growth.TheVariants.{By, To}
use Rattle.command_table.specs.declared.command.Path.{Path}
use Rattle.line_answers.specs.declared.op_refusal.OpRefusal.{OpRefusal}
use Rattle.line_answers.specs.declared.op_refusal.OpRefusal.TheVariants.{NotLonger}
use Rattle.meta_model.specs.Runs.{legs_of}
use Rattle.meta_model.specs.declared.group.Group.{Group}
use Rattle.meta_model.specs.declared.lv.Lv.{Lv}
use Rattle.meta_model.specs.declared.segment.SegKind.{SegKind}
use Rattle.meta_model.specs.declared.segment.SegKind.TheVariants.{Mirror, Striped}
use Rattle.volume_rules.specs.Extents.{extents_of}
use Rattle.extent_alloc.specs.declared.part.Part.{Part}
use Rattle.extent_alloc.specs.declared.request.Request.{Request}
use Rattle.group_edits.specs.LongerVolume.{last_kind, longer_volume}
use Rattle.group_edits.specs.ShortenedVolume.{parts_of}
use Rattle.group_edits.specs.Visible.{visible_named}
use Rattle.group_plan.specs.Committing.{change_where_found, length_row, named_rows, no_area_row, rows_where_found, seqno_row}
use Rattle.group_plan.specs.Committing.{version_change}
use Rattle.group_plan.specs.Judging.{refused_if, unknown_row}
use Rattle.group_plan.specs.Members.{outside_row, pvs_named}
use Rattle.group_plan.specs.declared.state.Change.{Change}
use Rattle.group_plan.specs.declared.state.GroupState.{GroupState}
use Rattle.lv_plans.specs.Allocating.{Asking, segments_row, space_row}
use Rattle.lv_plans.specs.Sizes.{growth_for, kept_by}
use Rattle.lv_plans.specs.Volumes.{layered_row, locked_row, rows_on}

-- ---- what it asks for

-- how many extents each leg of a segment of this kind has, so that all stripes together have at least so many
abbrev pub share_of : ℕ → SegKind → ℕ
share_of count (Striped stripe legs) = parts_of count (length legs)
share_of count (Mirror region moved legs) = count

-- so many extents in all, on as many legs, of these physical volumes
abbrev pub more_on : set.FinSet nat_cmp → ℕ → SegKind → Request
more_on pvs count kind =
    record { extents = share_of count kind; legs = length (legs_of kind); contiguous = false; on = pvs; avoid = set.empty }

-- as many as the volume is to grow by, on legs like those of its last segment, of those on the disks with these names
abbrev pub more_for : GroupState → Group → Growth → List (List ℕ) → Lv → Request
more_for state group growth pvs lv =
    more_on (pvs_named state pvs) (growth_for group.extent_size (extents_of lv) growth) (last_kind lv.segments)

-- ---- rows

-- the volume has as many extents as it is to have, or more
abbrev pub longer_row : ℕ → Lv → Growth → Option OpRefusal
longer_row extent_size lv (To amount) =
    refused_if (nat_le (kept_by extent_size amount lv) (extents_of lv)) (NotLonger (kept_by extent_size amount lv) (extents_of lv))
longer_row extent_size lv (By amount) = None

-- the rows on the volume with this number, before the allocator's
abbrev pub growth_rows : GroupState → List ℕ → Growth → List (List ℕ) → Group → ℕ × Lv → List (Option OpRefusal)
growth_rows state name growth pvs group volume =
    unknown_row state pvs
    ∷ outside_row state pvs
    ∷ locked_row group name volume.0
    ∷ layered_row name volume.1
    ∷ no_area_row state
    ∷ longer_row group.extent_size volume.1 growth
    ∷ seqno_row group
    ∷ []

-- with the allocator's
abbrev pub extend_lv_rows : GroupState → List ℕ → Growth → List (List ℕ) → Group → ℕ × Lv → List (Option OpRefusal)
extend_lv_rows state name growth pvs group volume =
    growth_rows state name growth pvs group volume ++ space_row state group (more_for state group growth pvs volume.1) ∷ []

-- those behind it, where the volume of this name gets these parts
abbrev pub lengthen_rows : GroupState → List ℕ → ℕ → Group → List Part → List (Option OpRefusal)
lengthen_rows state name now group given = segments_row group (length given) ∷ length_row state (longer_volume name given group) now ∷ []

-- the rows where this group was found
abbrev pub extend_in_rows : GroupState → Path → Growth → List (List ℕ) → ℕ → Group → List Part → List (Option OpRefusal)
extend_in_rows state path growth pvs now group given =
    named_rows group path.vg ++ rows_on group path.lv
    (λ volume. extend_lv_rows state path.lv growth pvs group volume ++ lengthen_rows state path.lv now group given)

-- all rows
abbrev pub lvextend_rows : GroupState → Path → Growth → List (List ℕ) → ℕ → List Part → List (Option OpRefusal)
lvextend_rows state path growth pvs now given =
    rows_where_found state.group path.vg (λ group. extend_in_rows state path growth pvs now group given)

-- ---- extents, and the change

-- what it asks of the allocator where this is the volume, behind these rows
abbrev pub volume_asks : List (Option OpRefusal) → GroupState → List ℕ → Growth → List (List ℕ) → Group → ℕ × Lv → Asking
volume_asks rows state name growth pvs group volume = record {
  group = group;
  want = more_for state group growth pvs volume.1;
  rows = rows ++ extend_lv_rows state name growth pvs group volume;
}

-- what it asks of it where this group was found
abbrev pub extend_asks : GroupState → Path → Growth → List (List ℕ) → Group → Option Asking
extend_asks state path growth pvs group =
    option_map (volume_asks (named_rows group path.vg) state path.lv growth pvs group) (visible_named group path.lv)

-- so it does in the group that was found
abbrev pub lvextend_asks : GroupState → Path → Growth → List (List ℕ) → Option Asking
lvextend_asks state path growth pvs = option_and_then (extend_asks state path growth pvs) state.group

-- the volume of this name has segments of these parts too
abbrev pub lvextend_change : GroupState → List ℕ → List Part → Change
lvextend_change state name given = change_where_found state (λ group. version_change state (longer_volume name given group))
