-- A group with another name (vgrename(8)).
use Rattle.std.specs.Prelude.{ℕ, List}
use Rattle.meta_model.specs.declared.group.Group.{Group}
use Rattle.group_edits.specs.NextVersion.{next_version}

-- the next version of the group has the new name
abbrev pub renamed_group : Group → List ℕ → Group
renamed_group group new = record (next_version group) { name = new }
