-- Numbers by ids, and what stands at them.
use Rattle.std.specs.Prelude.{ℕ, ◌+◌, Bool, List, [], ◌∷◌, Option, find, nat_eq, option_map}
use Rattle.std.specs.Coded.{Coded, coded_list, coded_ℕ}
use Rattle.std.specs.Cmp.Lexicographic.{pointwise, slice_cmp}
use Rattle.std.specs.List.{list_any}
use Rattle.std.specs.Ordering.{nat_cmp}
use Rattle.std.specs.FinMap as map
use Rattle.meta_model.specs.declared.lv.Lv.{Lv}
use Rattle.meta_model.specs.declared.pv.Pv.{Pv}

-- a number for each of some ids
abbrev pub IdNumbers : Type 0
IdNumbers = map.FinMap {K = List ℕ} (slice_cmp nat_cmp) ℕ

-- they are stored as their pairs, in the order of the ids
abbrev pub id_numbers_code : Coded IdNumbers
id_numbers_code = map.code (coded_list coded_ℕ) coded_ℕ

-- the number of each physical volume by its id, where the first has this number; of those with one id that of the first
abbrev pub pvs_by_id : ℕ → List (List ℕ × Pv) → IdNumbers
pvs_by_id first [] = map.empty
pvs_by_id first (pv ∷ pvs) = map.insert (pvs_by_id (first + 1) pvs) pv.1.id first

-- the same of logical volumes
abbrev pub lvs_by_id : ℕ → List (List ℕ × Lv) → IdNumbers
lvs_by_id first [] = map.empty
lvs_by_id first (lv ∷ lvs) = map.insert (lvs_by_id (first + 1) lvs) lv.1.id first

-- whether a physical volume has this id
abbrev pub has_id : List ℕ → List ℕ × Pv → Bool
has_id id pv = pointwise nat_eq pv.1.id id

-- whether one of them has
abbrev pub lists_id : List (List ℕ × Pv) → List ℕ → Bool
lists_id pvs id = list_any (has_id id) pvs

-- the first that has
abbrev pub pv_with : List (List ℕ × Pv) → List ℕ → Option Pv
pv_with pvs id = option_map (λ (pv : List ℕ × Pv). pv.1) (find (has_id id) pvs)
