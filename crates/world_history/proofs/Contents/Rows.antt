-- The rows of a group's logical volumes, by their numbers.
use Rattle.std.proofs.Common.{◌≡◌, ℕ, zero, suc, ◌+◌, ◌*◌, List, ◌∷◌, Option, Some, refl, ap, subst, arith}
use Rattle.std.specs.Prelude.{option_map, slice_get, unwrap_or}
use Rattle.meta_model.specs.declared.group.Group.{Group}
use Rattle.meta_model.specs.declared.lv.Lv.{Lv}
use Rattle.volume_rules.specs.Extents.{extents_of}
use Rattle.seg_place.specs.Sectors.{sectors_of}

abbrev pub Row : Type 0
Row = List ℕ × Lv

-- these are the rows of the group from this number on
abbrev pub StandFrom : Group → ℕ → List Row → Type 0
StandFrom group number rows = (k : ℕ) (row : Row) → slice_get rows k ≡ Some row → slice_get group.lvs (number + k) ≡ Some row

pub all_stand : (group : Group) → StandFrom group 0 group.lvs
all_stand group k row is = subst (λ (n : ℕ). slice_get group.lvs n ≡ Some row) (omega arith) is

pub first_stands : (group : Group) (number : ℕ) (row : Row) (rows : List Row) → StandFrom group number (row ∷ rows)
    → slice_get group.lvs number ≡ Some row
first_stands group number row rows stand = subst (λ (n : ℕ). slice_get group.lvs n ≡ Some row) (omega arith) (stand zero row refl)

pub rest_stand : (group : Group) (number : ℕ) (row : Row) (rows : List Row) → StandFrom group number (row ∷ rows)
    → StandFrom group (number + 1) rows
rest_stand group number row rows stand k other is =
    subst (λ (n : ℕ). slice_get group.lvs n ≡ Some other) (omega arith) (stand (suc k) other is)

-- how many sectors a volume has that stands
pub sectors_are : (group : Group) (number : ℕ) (row : Row) → slice_get group.lvs number ≡ Some row
    → sectors_of group number ≡ extents_of row.1 * group.extent_size
unfolding sectors_of
sectors_are group number row there =
    ap (λ (o : Option Row). unwrap_or (option_map (λ (volume : Row). extents_of volume.1 * group.extent_size) o) 0) there
