-- The volumes of the rows are there.
use Rattle.std.proofs.Common.{◌≡◌, ◌<◌, ℕ, suc, ◌+◌, Bool, true, false, cond, List, [], ◌∷◌, ◌++◌, length, map, take, get_or, Option, Some}
use Rattle.std.proofs.Common.{sym, ap, subst, ◌∙◌}
use Rattle.std.proofs.Common.{arith}
use Rattle.std.specs.Prelude.{All, slice_get}
use Rattle.std.specs.List.{AllByRecursion as Each}
use Rattle.std.specs.Option.{option_map_or}
use Rattle.std.proofs.lemmas.List.{map_push, take_more}
use Rattle.std.proofs.lemmas.List.Elements.{All-from_recursion}
use Rattle.meta_model.specs.declared.group.Group.{Group}
use Rattle.meta_model.specs.declared.lv.Lv.{Lv}
use Rattle.seg_place.specs.Sectors.{sectors_of}
use Rattle.world_acts.specs.declared.volumes.VolumeRow.{VolumeRow}
use Rattle.world_acts.specs.declared.volumes.Volumes.{Volumes}
use Rattle.world_acts.specs.Volumes.{AreLaidOut, numbers_of, visible_numbers}
use Rattle.line_plans.specs.Plans.{listed_of, listed_row, name_at}

below_more : (n m : ℕ) (numbers : List ℕ) → n ≡ m → Each (λ (k : ℕ). k < n) numbers → Each (λ (k : ℕ). k < m) numbers
below_more n m numbers same each = subst (λ (x : ℕ). Each (λ (k : ℕ). k < x) numbers) same each

numbers_below : (number : ℕ) (rows : List (List ℕ × Lv)) → Each (λ (k : ℕ). k < number + length rows) (visible_numbers number rows)
numbers_below number [] = tt
numbers_below number (row ∷ rows) =
    by row.1.status.visible
    (below_more (number + 1 + length rows) (number + suc (length rows)) (visible_numbers (number + 1) rows) (omega arith)
    (numbers_below (number + 1) rows))
  where
    by : (b : Bool) → Each (λ (k : ℕ). k < number + suc (length rows)) (visible_numbers (number + 1) rows)
        → Each (λ (k : ℕ). k < number + suc (length rows)) (cond b (number ∷ visible_numbers (number + 1) rows)
        (visible_numbers (number + 1) rows))
    by true rest = (omega arith, rest)
    by false rest = rest

each_row : (n : ℕ) (rows : List VolumeRow) → Each (λ (k : ℕ). k < n) (map (λ (r : VolumeRow). r.lv) rows)
    → Each (λ (r : VolumeRow). r.lv < n) rows
each_row n [] each = tt
each_row n (row ∷ rows) (first, rest) = (first, each_row n rows rest)

pub rows_within : (volumes : Volumes) (sizes : List ℕ) (group : Group) → AreLaidOut volumes sizes → volumes.group ≡ Some group
    → All (λ (r : VolumeRow). r.lv < length group.lvs) volumes.rows.items
rows_within volumes sizes group laid here =
    let listed : map (λ (r : VolumeRow). r.lv) volumes.rows.items ≡ visible_numbers 0 group.lvs = laid.listed ∙ ap numbers_of here in
    let below : Each (λ (k : ℕ). k < length group.lvs) (visible_numbers 0 group.lvs) =
    below_more (0 + length group.lvs) (length group.lvs) (visible_numbers 0 group.lvs) (omega arith) (numbers_below 0 group.lvs) in
    All-from_recursion (λ (r : VolumeRow). r.lv < length group.lvs) volumes.rows.items
    (each_row (length group.lvs) volumes.rows.items (subst (Each (λ (k : ℕ). k < length group.lvs)) (sym listed) below))

-- the list of the rows of a group that is there
pub listed_is : (volumes : Volumes) (group : Group) (rows : List VolumeRow) (list : List (List ℕ × ℕ)) → volumes.group ≡ Some group
    → rows ≡ volumes.rows.items → list ≡ map (listed_row group) rows → list ≡ listed_of volumes
listed_is volumes group rows list here same is =
    is ∙ ap (map (listed_row group)) same
    ∙ sym (ap (λ (o : Option Group). option_map_or (λ (g : Group). map (listed_row g) volumes.rows.items) o []) here)

-- one row more
pub row_more : (group : Group) (rows : List VolumeRow) (k : ℕ) (d : VolumeRow)
    (before all : List (List ℕ × ℕ)) (name : List ℕ) (length_of : ℕ)
    → k < length rows → name ≡ name_at group (get_or rows k d).lv → length_of ≡ sectors_of group (get_or rows k d).lv
    → all ≡ before ++ (name, length_of) ∷ [] → before ≡ map (listed_row group) (take k rows)
    → all ≡ map (listed_row group) (take (k + 1) rows)
row_more group rows k d before all name length_of within named long pushed so_far =
    let row : VolumeRow = get_or rows k d in
    pushed ∙ ap (λ (l : List (List ℕ × ℕ)). l ++ (name, length_of) ∷ []) so_far
    ∙ (λ i. map (listed_row group) (take k rows) ++ (named i, long i) ∷ [])
    ∙ sym (map_push (listed_row group) (take k rows) row) ∙ sym (ap (map (listed_row group)) (take_more rows k d within))

-- the name of a volume that is there
pub name_is : (group : Group) (lv : ℕ) (row : List ℕ × Lv) → slice_get group.lvs lv ≡ Some row → row.0 ≡ name_at group lv
name_is group lv row there = sym (ap (λ (o : Option (List ℕ × Lv)). option_map_or (λ (r : List ℕ × Lv). r.0) o []) there)
