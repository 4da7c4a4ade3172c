-- What is found by an id is what a walk finds.
use Rattle.std.proofs.Common.{◌≡◌, ℕ, Bool, true, false, cond, List, [], ◌∷◌, Some, subst}
use Rattle.std.specs.FinMap as map
use Rattle.std.specs.Prelude.{All, find, option_map}
use Rattle.std.specs.List.{AllByRecursion}
use Rattle.std.proofs.lemmas.List.Elements.{recursion_from_All}
use Rattle.std.proofs.lemmas.Option.{same_Some}
use Rattle.meta_model.specs.declared.group.Group.{Group}
use Rattle.meta_model.specs.declared.pv.Pv.{Pv}
use Rattle.id_index.specs.Ids.{has_id, lvs_by_id, pv_with}
use Rattle.id_index.proofs.Found.{lists_lv}
use Rattle.group_plan.specs.Ids.{has_lv_id}

pub found_lv : (group : Group) (id : List ℕ) → map.contains_key (lvs_by_id 0 group.lvs) id ≡ has_lv_id group id
found_lv group id = lists_lv id 0 group.lvs

-- what holds of each physical volume holds of the one that is found
module _ (P : Pv → Type 0) (id : List ℕ) (pv : Pv) where
  each_found : (pvs : List (List ℕ × Pv)) → AllByRecursion (λ (row : List ℕ × Pv). P row.1) pvs → pv_with pvs id ≡ Some pv → P pv
  each_found [] all found = cc
  each_found (row ∷ pvs) all found = by (has_id id row) (each_found pvs all.1) found
    where
      by : (b : Bool) → (pv_with pvs id ≡ Some pv → P pv)
          → option_map (λ (row : List ℕ × Pv). row.1) (cond b (Some row) (find (has_id id) pvs)) ≡ Some pv → P pv
      by true later found = subst P (same_Some row.1 pv found) all.0
      by false later found = later found

  pub holds_of_found : (pvs : List (List ℕ × Pv)) → All (λ (row : List ℕ × Pv). P row.1) pvs → pv_with pvs id ≡ Some pv → P pv
  holds_of_found pvs all found = each_found pvs (recursion_from_All (λ (row : List ℕ × Pv). P row.1) pvs all) found
