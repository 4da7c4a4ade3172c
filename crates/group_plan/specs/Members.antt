-- The physical volumes of the group that the words of a line name.
use Rattle.std.specs.Prelude.{ℕ, ◌==◌, Bool, List, filter_map, find, position, Option, is_none, option_map, option_and_then}
use Rattle.std.specs.FinSet as set
use Rattle.std.specs.Ordering.{nat_cmp}
use Rattle.command_table.specs.Options.{number_named}
use Rattle.line_answers.specs.declared.op_refusal.OpRefusal.{OpRefusal}
use Rattle.line_answers.specs.declared.op_refusal.OpRefusal.TheVariants.{NotInGroup}
use Rattle.group_plan.specs.Judging.{set_of}
use Rattle.group_plan.specs.declared.state.GroupState.{GroupState}

-- the number in the text of the group of the physical volume on this disk, where it lists one there
abbrev pub number_on : List ℕ → ℕ → Option ℕ
number_on disk_of disk = position (λ (listed : ℕ). listed == disk) disk_of

-- that of the one on the disk with this name
unfoldable pub pv_named : GroupState → List ℕ → Option ℕ
pv_named state name = option_and_then (number_on state.disk_of) (number_named state.names name)

-- the group lists none there
abbrev pub is_outside : GroupState → List ℕ → Bool
is_outside state name = is_none (pv_named state name)

-- the first name of which that holds
unfoldable pub outside_row : GroupState → List (List ℕ) → Option OpRefusal
outside_row state names = option_map (λ name. NotInGroup name) (find (is_outside state) names)

-- the numbers of those on the disks with these names
unfoldable pub pvs_named : GroupState → List (List ℕ) → set.FinSet nat_cmp
pvs_named state names = set_of (filter_map (pv_named state) names)
