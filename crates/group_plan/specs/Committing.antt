-- The next version of the group that was found: the rows of each command that commits one, and its change.
use Rattle.std.specs.Prelude.{ℕ, ◌==◌, not, List, [], ◌∷◌, Option, None, Some}
use Rattle.std.specs.Option.{option_map_or}
use Rattle.std.specs.FinSet as set
use Rattle.std.specs.Str.{bytes_eq}
use Rattle.sector_base.specs.declared.spans.Span.{Span}
use Rattle.line_answers.specs.declared.op_refusal.OpRefusal.{OpRefusal}
use Rattle.line_answers.specs.declared.op_refusal.OpRefusal.TheVariants.{ReadOnly, SeqnoEnd, UnknownGroup}
use Rattle.meta_model.specs.declared.group.Group.{Group}
use Rattle.group_plan.specs.Judging.{area_row, large_row, refused_if, stored_size}
use Rattle.group_plan.specs.declared.state.Change.{Change}
use Rattle.group_plan.specs.declared.state.GroupState.{GroupState}

-- ---- refusals

-- no group was found, or the rows where one was
abbrev pub rows_where_found : Option Group → List ℕ → (Group → List (Option OpRefusal)) → List (Option OpRefusal)
rows_where_found found vg rows = option_map_or rows found (Some (UnknownGroup vg) ∷ [])

-- the group has another name, or may not be changed
abbrev pub named_rows : Group → List ℕ → List (Option OpRefusal)
named_rows group vg =
    refused_if (not (bytes_eq group.name vg)) (UnknownGroup vg)
    ∷ refused_if (not group.status.write) ReadOnly
    ∷ []

-- none of the group's disks has a metadata area
abbrev pub no_area_row : GroupState → Option OpRefusal
no_area_row state = area_row state.areas state.disk_of

-- the group has the last number of a version
abbrev pub seqno_row : Group → Option OpRefusal
seqno_row group = refused_if (group.seqno == 4294967295) SeqnoEnd

-- the first area on these disks that can't take the text of this version
abbrev pub length_row_on : GroupState → List ℕ → Group → ℕ → Option OpRefusal
length_row_on state disks next now = large_row state.areas disks (stored_size next now)

-- the same on the group's disks
abbrev pub length_row : GroupState → Group → ℕ → Option OpRefusal
length_row state next now = length_row_on state state.disk_of next now

-- ---- changes

-- nothing changes
abbrev pub no_change : GroupState → Change
no_change state = record { group = None; zero = []; labels = []; taken = set.empty; cleared = set.empty; disk_of = state.disk_of }

-- this version is committed to these disks, and no label changes
abbrev pub version_change_on : List ℕ → Group → Change
version_change_on disks next = record { group = Some next; zero = []; labels = []; taken = set.empty; cleared = set.empty; disk_of = disks }

-- the same, to the disks of the group in force
abbrev pub version_change : GroupState → Group → Change
version_change state next = version_change_on state.disk_of next

-- so it is, and these sectors are to hold zeros before
abbrev pub zeroing_change : GroupState → List Span → Group → Change
zeroing_change state zero next = record (version_change state next) { zero = zero }

-- the change of the group that was found
abbrev pub change_where_found : GroupState → (Group → Change) → Change
change_where_found state change = option_map_or change state.group (no_change state)
