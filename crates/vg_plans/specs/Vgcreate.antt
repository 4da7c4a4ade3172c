-- vgcreate(8): the rows of its refusals, and its change.
use Rattle.std.specs.Prelude.{◌≡◌, ◌≤◌, ◌%◌, ◌^◌, ℕ, true, List, [], ◌∷◌, ◌++◌, length, Option, None, Some}
use Rattle.std.specs.Option.{option_map_or}
use Rattle.lvm_id.specs.LvmId.{IsId}
use Rattle.lvm_name.specs.Names.{group_name_refusal}
use Rattle.line_answers.specs.declared.op_refusal.OpRefusal.{OpRefusal}
use Rattle.line_answers.specs.declared.op_refusal.OpRefusal.TheVariants.{GroupStands, IdTaken}
use Rattle.meta_model.specs.declared.group.Group.{Group}
use Rattle.group_plan.specs.Added.{added_of, disks_added}
use Rattle.group_plan.specs.Judging.{area_row, many_row, refused_if, small_row, stands_on_disk, unknown_row, used_row}
use Rattle.group_plan.specs.NewGroup.{change_with, text_row}
use Rattle.group_plan.specs.declared.added.AddedPv.{AddedPv}
use Rattle.group_plan.specs.declared.state.Change.{Change}
use Rattle.group_plan.specs.declared.state.GroupState.{GroupState}

-- a new group of this name and id without volumes: version 1, all three status words, no limits
abbrev pub empty_group : List ℕ → List ℕ → ℕ → Group
empty_group id name extent_size = record {
  name = name;
  id = id;
  seqno = 1;
  status = record { resizeable = true; read = true; write = true };
  extent_size = extent_size;
  max_lv = 0;
  max_pv = 0;
  copies = 0;
  pvs = [];
  lvs = [];
}

-- the group is such a new one, with an id, a group's name, and a multiple of 8 sectors as the size of its extents
pub record IsEmptyGroup (group : Group) : Type 0 where
  pub empty : group ≡ empty_group group.id group.name group.extent_size
  pub valid : IsId group.id
  pub named : group_name_refusal group.name ≡ None
  pub least : 8 ≤ group.extent_size
  pub most : group.extent_size ≤ 2 ^ 31
  pub whole : group.extent_size % 8 ≡ 0

-- the rows on its physical volumes, where this is the group without them
abbrev pub create_rows : GroupState → Group → List AddedPv → List (Option OpRefusal)
create_rows state base all =
    used_row [] all
    ∷ area_row state.areas (disks_added all)
    ∷ small_row base.extent_size all
    ∷ many_row 64 0 (length all)
    ∷ refused_if (stands_on_disk base.id state.disks) (IdTaken base.id)
    ∷ []

-- the rows where no group was found: a disk isn't known; those on the physical volumes; and the text is too long
abbrev pub new_rows : GroupState → Group → List (List ℕ) → ℕ → List (Option OpRefusal)
new_rows state base names now =
    unknown_row state names
    ∷ create_rows state base (added_of state names)
    ++ text_row state base [] (added_of state names) now
    ∷ []

-- a group was found, or the rows where none was
abbrev pub vgcreate_rows : GroupState → Group → List (List ℕ) → ℕ → List (Option OpRefusal)
vgcreate_rows state base names now =
    option_map_or (λ (group : Group). Some (GroupStands group.name) ∷ []) state.group (new_rows state base names now)

-- the new group has these physical volumes, and is committed
abbrev pub vgcreate_change : GroupState → Group → List (List ℕ) → Change
vgcreate_change state base names = change_with base [] (added_of state names)
