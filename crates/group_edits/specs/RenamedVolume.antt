-- A group in which a logical volume has another name (lvrename(8)).
use Rattle.std.specs.Prelude.{ℕ, List}
use Rattle.meta_model.specs.declared.group.Group.{Group}
use Rattle.meta_model.specs.declared.lv.Lv.{Lv}
use Rattle.group_edits.specs.NextVersion.{with_changed}

-- the volume of the old name has the new one
abbrev pub renamed_volume : List ℕ → List ℕ → Group → Group
renamed_volume old new group = with_changed old (λ (row : List ℕ × Lv). (new, row.1)) group
