-- The line of a volume of a group by its name, its kind and its extents, and the volumes from a number on.
use Rattle.std.specs.Prelude.{ℕ, ◌*◌, List, ◌++◌, codes, drop, filter}
use Rattle.std.specs.List.{enumerate_from}
use Rattle.meta_model.specs.declared.group.Group.{Group}
use Rattle.meta_model.specs.declared.lv.Lv.{Lv}
use Rattle.lvm_report.specs.Columns.{left, right}

-- its name, its group, its kind, and how many sectors it has
abbrev pub volume_line : Group → List ℕ → List ℕ → ℕ → List ℕ
volume_line group name kind extents =
    left 16 name ++ codes " " ++ left 16 group.name ++ codes " " ++ left 6 kind ++ codes " " ++ right 12 (extents * group.extent_size)
    ++ codes "\n"

-- the visible volumes from this number on
abbrev pub visible_from : Group → ℕ → List (ℕ × (List ℕ × Lv))
visible_from group number = filter (λ (lv : ℕ × (List ℕ × Lv)). lv.1.1.status.visible) (drop number (enumerate_from 0 group.lvs))
