-- A group with further physical volumes, as vgcreate(8) and vgextend(8) make it.
use Rattle.std.specs.Prelude.{ℕ, ◌+◌, Bool, not, List, [], ◌∷◌, ◌++◌, length, find, codes, decimal, unwrap_or}
use Rattle.std.specs.List.{range_with_len}
use Rattle.lvm_name.specs.Names.{is_among}
use Rattle.meta_model.specs.declared.group.Group.{Group}
use Rattle.meta_model.specs.declared.lv.Lv.{Lv}
use Rattle.meta_model.specs.declared.pv.Pv.{Pv}
use Rattle.meta_model.specs.Tables.{names_of}

-- `pv` and a number
abbrev pub pv_name : ℕ → List ℕ
pv_name number = codes "pv" ++ decimal number

-- none of these names is that with the number
abbrev pub is_free : List (List ℕ) → ℕ → Bool
is_free names number = not (is_among names (pv_name number))

-- the least number for which none is; one number more than there are names is enough
unfoldable pub free_number : List (List ℕ) → ℕ
free_number names = unwrap_or (find (is_free names) (range_with_len 0 (length names + 1))) 0

-- the names of physical and logical volumes
abbrev pub names_in : List (List ℕ × Pv) → List (List ℕ × Lv) → List (List ℕ)
names_in pvs lvs = names_of pvs ++ names_of lvs

-- the physical volumes with these behind them, each named `pvN` with the least number that no volume has
abbrev pub with_pvs : List (List ℕ × Lv) → List (List ℕ × Pv) → List Pv → List (List ℕ × Pv)
with_pvs lvs pvs [] = pvs
with_pvs lvs pvs (pv ∷ more) = with_pvs lvs (pvs ++ (pv_name (free_number (names_in pvs lvs)), pv) ∷ []) more

-- the group with these too
abbrev pub joined_group : Group → List Pv → Group
joined_group base more = record base { pvs = with_pvs base.lvs base.pvs more }
