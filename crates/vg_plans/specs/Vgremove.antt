-- vgremove(8): the rows of its refusals, and its change.
use Rattle.std.specs.Prelude.{ℕ, List, [], ◌∷◌, ◌++◌, slice_get, Option, None, option_map}
use Rattle.std.specs.FinSet as set
use Rattle.line_answers.specs.declared.op_refusal.OpRefusal.{OpRefusal}
use Rattle.line_answers.specs.declared.op_refusal.OpRefusal.TheVariants.{InUse}
use Rattle.meta_model.specs.declared.group.Group.{Group}
use Rattle.meta_model.specs.declared.lv.Lv.{Lv}
use Rattle.group_plan.specs.Committing.{named_rows, rows_where_found}
use Rattle.group_plan.specs.Judging.{set_of}
use Rattle.group_plan.specs.declared.state.Change.{Change}
use Rattle.group_plan.specs.declared.state.GroupState.{GroupState}

-- the group has a logical volume: its first one
abbrev pub volume_row : Group → Option OpRefusal
volume_row group = option_map (λ (lv : List ℕ × Lv). InUse lv.0) (slice_get group.lvs 0)

-- the rows where this group was found
abbrev pub remove_rows : List ℕ → Group → List (Option OpRefusal)
remove_rows vg group = named_rows group vg ++ volume_row group ∷ []

-- all rows
abbrev pub vgremove_rows : GroupState → List ℕ → List (Option OpRefusal)
vgremove_rows state vg = rows_where_found state.group vg (remove_rows vg)

-- nothing is committed, and all disks of the group are cleared
abbrev pub vgremove_change : GroupState → Change
vgremove_change state = record { group = None; zero = []; labels = []; taken = set.empty; cleared = set_of state.disk_of; disk_of = [] }
