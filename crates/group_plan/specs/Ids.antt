-- Whether ids stand in a group.
use Rattle.std.specs.Prelude.{ℕ, Bool, ◌||◌, List}
use Rattle.std.specs.List.{list_any}
use Rattle.std.specs.Str.{bytes_eq}
use Rattle.meta_model.specs.declared.group.Group.{Group}
use Rattle.meta_model.specs.declared.lv.Lv.{Lv}
use Rattle.meta_model.specs.declared.pv.Pv.{Pv}

-- a logical volume of the group has the id
abbrev pub has_lv_id : Group → List ℕ → Bool
has_lv_id group id = list_any (λ (lv : List ℕ × Lv). bytes_eq lv.1.id id) group.lvs

-- a physical volume of the group has it
abbrev pub has_pv_id : Group → List ℕ → Bool
has_pv_id group id = list_any (λ (pv : List ℕ × Pv). bytes_eq pv.1.id id) group.pvs

-- the group or a logical volume of it has it
abbrev pub has_other_id : Group → List ℕ → Bool
has_other_id group id = bytes_eq group.id id || has_lv_id group id

-- the group or a volume of it has it
abbrev pub has_any_id : Group → List ℕ → Bool
has_any_id group id = has_other_id group id || has_pv_id group id
