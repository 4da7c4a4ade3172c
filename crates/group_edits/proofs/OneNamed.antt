-- The visible volume of a name, where it stands, and that no other volume has its name.
use Rattle.std.proofs.Common.{◌≡◌, ℕ, suc, ◌+◌, Bool, true, false, ◌||◌, ◌&&◌, cond, List, [], ◌∷◌, map, Option, Some, None, refl, sym, ap}
use Rattle.std.proofs.Common.{◌∙◌, arith}
use Rattle.std.specs.Prelude.{nat_eq, option_map, slice_get, Contains}
use Rattle.std.specs.List.{AllByRecursion as Each}
use Rattle.std.specs.Cmp.Lexicographic.{pointwise}
use Rattle.std.proofs.lemmas.Bool.{false≢true, or_right, true≢false}
use Rattle.std.proofs.lemmas.List.Elements.{All-contains, All-from_recursion}
use Rattle.std.proofs.lemmas.Option.{same_Some}
use Rattle.std.specs.Str.{bytes_eq}
use Rattle.lvm_name.specs.Names.{is_among}
use Rattle.meta_model.specs.declared.group.Group.{Group}
use Rattle.meta_model.specs.declared.lv.Lv.{Lv}
use Rattle.meta_print.proofs.NamesOfText.{pointwise_same}
use Rattle.meta_print.proofs.Printable.{AreNames, IsPrintable}
use Rattle.scan_rules.proofs.Scanning.{same_bytes_tells}
use Rattle.group_edits.specs.Visible.{visible_from, visible_named}

abbrev Row : Type 0
Row = List ℕ × Lv

pub both_true : (a b : Bool) → (a && b) ≡ true → (a ≡ true) × (b ≡ true)
both_true true b is = (refl, is)
both_true false b is = absurd (false≢true is)

-- where the visible volume stands that was found
pub record IsVisibleAt (number : ℕ) (name : List ℕ) (rows : List Row) (v : ℕ × Lv) : Type 0 where
  pub k : ℕ
  pub row : Row
  pub place : v.0 ≡ number + k
  pub there : slice_get rows k ≡ Some row
  pub volume : row.1 ≡ v.1
  pub visible : row.1.status.visible ≡ true

module _ (name : List ℕ) where
  visible_at_from : (number : ℕ) (rows : List Row) (v : ℕ × Lv) → visible_from number name rows ≡ Some v → IsVisibleAt number name rows v
  visible_at_from number [] v found = absurd cc
  visible_at_from number (row ∷ rows) v found =
      by (row.1.status.visible && bytes_eq row.0 name) refl found (λ made. visible_at_from (number + 1) rows v made) where
        by : (b : Bool) → (row.1.status.visible && bytes_eq row.0 name) ≡ b
            → cond b (Some (number, row.1)) (visible_from (number + 1) name rows) ≡ Some v
            → (visible_from (number + 1) name rows ≡ Some v → IsVisibleAt (number + 1) name rows v) → IsVisibleAt number name (row ∷ rows) v
        by true is made later =
            let same : (number, row.1) ≡ v = same_Some (number, row.1) v made in
            record {
              k = 0;
              row = row;
              place = sym (ap (λ (x : ℕ × Lv). x.0) same) ∙ (let e : number ≡ number + 0 = omega arith in e);
              there = refl;
              volume = ap (λ (x : ℕ × Lv). x.1) same;
              visible = (both_true row.1.status.visible (bytes_eq row.0 name) is).0;
            }
        by false is made later =
            let rest : IsVisibleAt (number + 1) name rows v = later made in
            record {
              k = suc rest.k;
              row = rest.row;
              place = omega (arith, rest.place);
              there = rest.there;
              volume = rest.volume;
              visible = rest.visible;
            }

  -- ---- no other has the name

  abbrev HasOther : Row → Type 0
  HasOther row = bytes_eq row.0 name ≡ false

  -- it is this one, where it has the name
  abbrev pub IsThis : Lv → Row → Type 0
  IsThis lv row = bytes_eq row.0 name ≡ true → row.1 ≡ lv

  pub among_first : (own : List ℕ) (names : List (List ℕ)) → own ≡ name → is_among (own ∷ names) name ≡ true
  among_first own names same = ap (λ (b : Bool). b || is_among names name) (ap (pointwise nat_eq name) same ∙ pointwise_same name)

  -- none has it where it stood before
  others : (rows : List Row) (taken : List (List ℕ)) → AreNames taken (map (λ (row : Row). row.0) rows) → is_among taken name ≡ true
      → Each HasOther rows
  others [] taken are among = tt
  others (row ∷ rows) taken are among = (
    by (bytes_eq row.0 name) refl,
    others rows (row.0 ∷ taken) are.2
        (or_right (pointwise nat_eq name row.0) (is_among taken name) among),
  ) where
    by : (b : Bool) → bytes_eq row.0 name ≡ b → b ≡ false
    by true is = absurd (true≢false (sym among ∙ ap (is_among taken) (sym (same_bytes_tells row.0 name is)) ∙ are.1))
    by false is = refl

  none_of_others : (number : ℕ) (rows : List Row) → Each HasOther rows → visible_from number name rows ≡ None
  none_of_others number [] all = refl
  none_of_others number (row ∷ rows) all = by row.1.status.visible ∙ none_of_others (number + 1) rows all.1 where
    by : (seen : Bool) → cond (seen && bytes_eq row.0 name) (Some (number, row.1)) (visible_from (number + 1) name rows)
        ≡ visible_from (number + 1) name rows
    by true = ap (λ (b : Bool). cond b (Some (number, row.1)) (visible_from (number + 1) name rows)) all.0
    by false = refl

  these_of_others : (lv : Lv) (rows : List Row) → Each HasOther rows → Each (IsThis lv) rows
  these_of_others lv [] all = tt
  these_of_others lv (row ∷ rows) all = (λ is. absurd (true≢false (sym is ∙ all.0)), these_of_others lv rows all.1)

  none_some : (number : ℕ) (rows : List Row) (v : ℕ × Lv) → Each HasOther rows → visible_from number name rows ≡ Some v → ⊥
  none_some number rows v all found = no (sym (none_of_others number rows all) ∙ found) where
    no : None ≡ Some v → ⊥
    no is = absurd cc

  each_this : (number : ℕ) (rows : List Row) (taken : List (List ℕ)) (v : ℕ × Lv) → visible_from number name rows ≡ Some v
      → AreNames taken (map (λ (row : Row). row.0) rows) → Each (IsThis v.1) rows
  each_this number [] taken v found are = tt
  each_this number (row ∷ rows) taken v found are =
      by (row.1.status.visible && bytes_eq row.0 name) refl found (λ made. each_this (number + 1) rows (row.0 ∷ taken) v made are.2) where
        by : (b : Bool) → (row.1.status.visible && bytes_eq row.0 name) ≡ b
            → cond b (Some (number, row.1)) (visible_from (number + 1) name rows) ≡ Some v
            → (visible_from (number + 1) name rows ≡ Some v → Each (IsThis v.1) rows) → Each (IsThis v.1) (row ∷ rows)
        by true is made later =
            let both = both_true row.1.status.visible (bytes_eq row.0 name) is in (
              λ same. ap (λ (x : ℕ × Lv). x.1) (same_Some (number, row.1) v made),
              these_of_others v.1 rows (others rows (row.0 ∷ taken) are.2 (among_first row.0 taken (same_bytes_tells row.0 name both.1))),
            )
        by false is made later = (
          λ same. absurd (none_some (number + 1) rows v
              (others rows (row.0 ∷ taken) are.2 (among_first row.0 taken (same_bytes_tells row.0 name same))) made),
          later made,
        )

-- ---- of a group

pub visible_at : (group : Group) (name : List ℕ) (v : ℕ × Lv) → visible_named group name ≡ Some v → IsVisibleAt 0 name group.lvs v
unfolding visible_named
visible_at group name v found = visible_at_from name 0 group.lvs v found

pub is_this : (group : Group) (name : List ℕ) (v : ℕ × Lv) → IsPrintable group → visible_named group name ≡ Some v → (row : Row)
    → Contains group.lvs row → bytes_eq row.0 name ≡ true → row.1 ≡ v.1
unfolding visible_named
is_this group name v can found row within =
    All-contains (IsThis name v.1) group.lvs row
    (All-from_recursion (IsThis name v.1) group.lvs (each_this name 0 group.lvs [] v found can.lv_names)) within

-- the volume with this number is the one that was found with it
pub named_is : (group : Group) (name : List ℕ) (number : ℕ) (row : Row)
    → Some number ≡ option_map (λ (v : ℕ × Lv). v.0) (visible_named group name) → slice_get group.lvs number ≡ Some row
    → visible_named group name ≡ Some (number, row.1)
named_is group name number row is there = by (visible_named group name) refl is where
  by : (o : Option (ℕ × Lv)) → visible_named group name ≡ o → Some number ≡ option_map (λ (v : ℕ × Lv). v.0) o
      → visible_named group name ≡ Some (number, row.1)
  by None found made = absurd cc
  by (Some v) found made =
      let at : IsVisibleAt 0 name group.lvs v = visible_at group name v found in
      let one : number ≡ v.0 = same_Some number v.0 made in
      let k : at.k ≡ number = (let p = at.place in omega (arith, p, one)) in
      let same : row ≡ at.row = same_Some row at.row (sym there ∙ ap (slice_get group.lvs) (sym k) ∙ at.there) in
      found ∙ (λ i. Some (sym one i, (sym (ap (λ (r : Row). r.1) same ∙ at.volume)) i))
