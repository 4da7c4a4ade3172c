-- The row of the volume on a path.
use Rattle.std.proofs.Common.{◌≡◌, ◌≤◌, ℕ, zero, suc, ◌+◌, Bool, true, false, ◌||◌, cond, List, [], ◌∷◌, map, Option, Some, None, refl, sym}
use Rattle.std.proofs.Common.{ap, subst, ◌∙◌}
use Rattle.std.proofs.Common.{arith}
use Rattle.std.specs.Prelude.{find, nat_eq, option_map, slice_get, IfSome}
use Rattle.std.specs.List.{list_any}
use Rattle.std.specs.Str.{bytes_eq}
use Rattle.std.proofs.lemmas.Bool.{or_right}
use Rattle.std.proofs.lemmas.Option.{same_Some}
use Rattle.command_table.specs.declared.command.Path.{Path}
use Rattle.meta_model.specs.declared.group.Group.{Group}
use Rattle.meta_model.specs.declared.lv.Lv.{Lv}
use Rattle.list_laws.proofs.Bools.{eq_of, eq_to}
use Rattle.seg_place.specs.Sectors.{sectors_of}
use Rattle.group_edits.specs.Visible.{visible_named}
use Rattle.group_edits.proofs.OneNamed.{IsVisibleAt, visible_at}
use Rattle.world_acts.specs.declared.volumes.VolumeRow.{VolumeRow}
use Rattle.world_acts.specs.declared.volumes.Volumes.{Volumes}
use Rattle.world_acts.specs.Volumes.{AreLaidOut, numbers_of, visible_numbers}
use Rattle.line_plans.specs.Judging.{IsFoundIn, number_on}

-- a visible volume's number is listed
visible_has : (number : ℕ) (rows : List (List ℕ × Lv)) (k : ℕ) (row : List ℕ × Lv) → slice_get rows k ≡ Some row
    → row.1.status.visible ≡ true → list_any (λ (n : ℕ). nat_eq n (number + k)) (visible_numbers number rows) ≡ true
visible_has number [] k row there seen = absurd cc
visible_has number (first ∷ rows) zero row there seen =
    let same : first ≡ row = same_Some first row there in
    ap (λ (r : List ℕ × Lv). list_any (λ (n : ℕ). nat_eq n (number + 0)) (cond r.1.status.visible
    (number ∷ visible_numbers (number + 1) rows)
    (visible_numbers (number + 1) rows))) same
    ∙ ap (λ (b : Bool). list_any (λ (n : ℕ). nat_eq n (number + 0)) (cond b (number ∷ visible_numbers (number + 1) rows)
    (visible_numbers (number + 1) rows))) seen
    ∙ ap (λ (b : Bool). b || list_any (λ (n : ℕ). nat_eq n (number + 0)) (visible_numbers (number + 1) rows))
    (eq_to number (number + 0) (omega arith))
visible_has number (first ∷ rows) (suc k) row there seen =
    let next : number + 1 + k ≡ number + suc k = omega arith in
    by first.1.status.visible
    (subst (λ (m : ℕ). list_any (λ (n : ℕ). nat_eq n m) (visible_numbers (number + 1) rows) ≡ true) next
    (visible_has (number + 1) rows k row there seen))
  where
    by : (b : Bool) → list_any (λ (n : ℕ). nat_eq n (number + suc k)) (visible_numbers (number + 1) rows) ≡ true
        → list_any (λ (n : ℕ). nat_eq n (number + suc k)) (cond b (number ∷ visible_numbers (number + 1) rows)
        (visible_numbers (number + 1) rows)) ≡ true
    by true rest = or_right _ _ rest
    by false rest = rest

-- and found among the rows
row_is_there : (lv : ℕ) (rows : List VolumeRow) → list_any (λ (n : ℕ). nat_eq n lv) (map (λ (r : VolumeRow). r.lv) rows) ≡ true
    → find (λ (r : VolumeRow). nat_eq r.lv lv) rows ≡ None → ⊥
row_is_there lv [] has none = cc
row_is_there lv (r ∷ rows) has none = by (nat_eq r.lv lv) has none (row_is_there lv rows) where
  by : (b : Bool) → (b || list_any (λ (n : ℕ). nat_eq n lv) (map (λ (r : VolumeRow). r.lv) rows)) ≡ true
      → cond b (Some r) (find (λ (r : VolumeRow). nat_eq r.lv lv) rows) ≡ None
      → (list_any (λ (n : ℕ). nat_eq n lv) (map (λ (r : VolumeRow). r.lv) rows) ≡ true
      → find (λ (r : VolumeRow). nat_eq r.lv lv) rows ≡ None → ⊥) → ⊥
  by true has none later = cc
  by false has none later = later has none

-- the row that is found has the number
pub row_number : (lv : ℕ) (rows : List VolumeRow) (row : VolumeRow) → find (λ (r : VolumeRow). nat_eq r.lv lv) rows ≡ Some row → row.lv ≡ lv
row_number lv [] row found = absurd cc
row_number lv (r ∷ rows) row found = by (nat_eq r.lv lv) refl found (row_number lv rows row) where
  by : (b : Bool) → nat_eq r.lv lv ≡ b → cond b (Some r) (find (λ (r : VolumeRow). nat_eq r.lv lv) rows) ≡ Some row
      → (find (λ (r : VolumeRow). nat_eq r.lv lv) rows ≡ Some row → row.lv ≡ lv) → row.lv ≡ lv
  by true same here rest = sym (ap (λ (s : VolumeRow). s.lv) (same_Some r row here)) ∙ eq_of r.lv lv same
  by false same later rest = rest later

module _ (volumes : Volumes) (group : Group) (path : Path) (lv : ℕ) (here : volumes.group ≡ Some group)
    (named : option_map (λ (v : ℕ × Lv). v.0) (visible_named group path.lv) ≡ Some lv) where
  -- where its group has the path's name
  number_is : bytes_eq group.name path.vg ≡ true → number_on volumes.group path ≡ Some lv
  number_is own =
      ap (λ (o : Option Group). number_on o path) here
      ∙ ap (λ (b : Bool). cond b (option_map (λ (v : ℕ × Lv). v.0) (visible_named group path.lv)) None) own ∙ named

  -- a volume on a path has a row
  pub has_row : (sizes : List ℕ) → AreLaidOut volumes sizes → None ≡ find (λ (r : VolumeRow). nat_eq r.lv lv) volumes.rows.items → ⊥
  has_row sizes laid none = by (visible_named group path.lv) refl named where
    listed : map (λ (r : VolumeRow). r.lv) volumes.rows.items ≡ visible_numbers 0 group.lvs
    listed = laid.listed ∙ ap numbers_of here

    by : (o : Option (ℕ × Lv)) → visible_named group path.lv ≡ o → option_map (λ (v : ℕ × Lv). v.0) o ≡ Some lv → ⊥
    by None is made = cc
    by (Some v) is made =
        let at : IsVisibleAt 0 path.lv group.lvs v = visible_at group path.lv v is in
        let place : 0 + at.k ≡ lv = sym at.place ∙ same_Some v.0 lv made in
        let among : list_any (λ (n : ℕ). nat_eq n (0 + at.k)) (visible_numbers 0 group.lvs) ≡ true =
        visible_has 0 group.lvs at.k at.row at.there at.visible in
        row_is_there lv volumes.rows.items
        (ap (list_any (λ (n : ℕ). nat_eq n lv)) listed
        ∙ subst (λ (m : ℕ). list_any (λ (n : ℕ). nat_eq n m) (visible_numbers 0 group.lvs) ≡ true) place among) (sym none)

  -- which is the one that is found by its number
  pub is_found : bytes_eq group.name path.vg ≡ true → (range : Option (ℕ × ℕ)) (row : VolumeRow) → Some row ≡ find (λ (r : VolumeRow). nat_eq r.lv lv) volumes.rows.items
      → IfSome range (λ (r : ℕ × ℕ). r.0 + r.1 ≤ sectors_of group lv) → IsFoundIn volumes path range row
  is_found own range row found within =
      let same : row.lv ≡ lv = row_number lv volumes.rows.items row (sym found) in
      record {
        number = number_is own ∙ ap (λ (n : ℕ). Some n) (sym same);
        listed = ap (λ (n : ℕ). find (λ (r : VolumeRow). nat_eq r.lv n) volumes.rows.items) same ∙ sym found;
        within =
            subst (λ (o : Option Group). IfSome range (λ (r : ℕ × ℕ). IfSome o (λ (g : Group). r.0 + r.1 ≤ sectors_of g row.lv))) (sym here)
            (subst (λ (n : ℕ). IfSome range (λ (r : ℕ × ℕ). r.0 + r.1 ≤ sectors_of group n)) (sym same) within);
      }
