-- The table of volumes around the one visible volume of a name.
use Rattle.std.proofs.Common.{◌≡◌, ℕ, zero, suc, ◌+◌, Bool, true, false, ◌&&◌, cond, List, [], ◌∷◌, ◌++◌, length, map, Some, refl, sym, ap}
use Rattle.std.proofs.Common.{subst, ◌∙◌, arith}
use Rattle.std.specs.Prelude.{nat_eq, slice_get, sum_by}
use Rattle.std.specs.List.{AllByRecursion as Each}
use Rattle.std.specs.Cmp.Lexicographic.{pointwise}
use Rattle.std.proofs.lemmas.Bool.{or_right, true≢false}
use Rattle.std.proofs.lemmas.List.Sums.{sum_by-append, sum_by-cons}
use Rattle.std.proofs.lemmas.Option.{same_Some}
use Rattle.std.specs.Str.{bytes_eq}
use Rattle.lvm_name.specs.Names.{is_among}
use Rattle.meta_model.specs.declared.lv.Lv.{Lv}
use Rattle.meta_print.proofs.Printable.{AreNames}
use Rattle.scan_rules.proofs.Scanning.{same_bytes_tells}
use Rattle.group_edits.proofs.OneNamed.{among_first, both_true}
use Rattle.group_edits.specs.NextVersion.{changed_if}
use Rattle.group_edits.specs.Visible.{visible_from}

abbrev Row : Type 0
Row = List ℕ × Lv

-- ---- one element of a list is replaced

module _ {X : Type 0} where
  module _ (P : X → Type 0) where
    pub each_between : (before after : List X) (x : X) → Each P (before ++ x ∷ after) → P x
    each_between [] after x all = all.0
    each_between (y ∷ before) after x all = each_between before after x all.1

    pub each_replaced : (before after : List X) (x y : X) → Each P (before ++ x ∷ after) → P y → Each P (before ++ y ∷ after)
    each_replaced [] after x y all here = (here, all.1)
    each_replaced (z ∷ before) after x y all here = (all.0, each_replaced before after x y all.1 here)

  pub map_replaced : {Y : Type 0} (g : X → Y) (before after : List X) (x y : X) → g x ≡ g y
      → map g (before ++ x ∷ after) ≡ map g (before ++ y ∷ after)
  map_replaced g [] after x y same = ap (λ z. z ∷ map g after) same
  map_replaced g (z ∷ before) after x y same = ap (λ zs. g z ∷ zs) (map_replaced g before after x y same)

  pub length_replaced : (before after : List X) (x y : X) → length (before ++ x ∷ after) ≡ length (before ++ y ∷ after)
  length_replaced [] after x y = refl
  length_replaced (z ∷ before) after x y = ap suc (length_replaced before after x y)

  -- an element is the same, or is the one that was replaced
  pub at_replaced : (R : X → X → Type 0) → ((x : X) → R x x) → (before after : List X) (x y : X) → R x y → (n : ℕ) (z : X)
      → slice_get (before ++ x ∷ after) n ≡ Some z → (later : X) × (slice_get (before ++ y ∷ after) n ≡ Some later) × R z later
  at_replaced R same [] after x y related zero z is = (y, refl, subst (λ w. R w y) (same_Some x z is) related)
  at_replaced R same [] after x y related (suc n) z is = (z, is, same z)
  at_replaced R same (w ∷ before) after x y related zero z is = (w, refl, subst (λ v. R v w) (same_Some w z is) (same w))
  at_replaced R same (w ∷ before) after x y related (suc n) z is = at_replaced R same before after x y related n z is

  pub sum_replaced : (g : X → ℕ) (before after : List X) (x y : X)
      → sum_by g (before ++ y ∷ after) + g x ≡ sum_by g (before ++ x ∷ after) + g y
  sum_replaced g before after x y =
      let a = sum_by-append g before (y ∷ after) in
      let b = sum_by-append g before (x ∷ after) in
      let c = sum_by-cons g y after in
      let d = sum_by-cons g x after in
      omega (arith, a, b, c, d)

-- ---- the volume of a name

module _ (name : List ℕ) where
  -- the row has another name
  abbrev pub IsOther : Row → Type 0
  IsOther row = bytes_eq row.0 name ≡ false

  -- the rows are that of the volume, which is visible, and rows of other names
  pub record IsSplit (rows : List Row) (v : Lv) : Type 0 where
    pub before : List Row
    pub row : Row
    pub after : List Row
    pub rows_is : rows ≡ before ++ row ∷ after
    pub is_volume : row.1 ≡ v
    pub named : bytes_eq row.0 name ≡ true
    pub seen : row.1.status.visible ≡ true
    pub earlier : Each IsOther before
    pub later : Each IsOther after

  -- no row has a name that stood before
  all_other : (rows : List Row) (taken : List (List ℕ)) → AreNames taken (map (λ (row : Row). row.0) rows) → is_among taken name ≡ true
      → Each IsOther rows
  all_other [] taken are among = tt
  all_other (row ∷ rows) taken are among = (
    by (bytes_eq row.0 name) refl,
    all_other rows (row.0 ∷ taken) are.2
        (or_right (pointwise nat_eq name row.0) (is_among taken name) among),
  ) where
    by : (b : Bool) → bytes_eq row.0 name ≡ b → b ≡ false
    by true is = absurd (true≢false (sym among ∙ ap (is_among taken) (sym (same_bytes_tells row.0 name is)) ∙ are.1))
    by false is = refl

  pub split : (number : ℕ) (rows : List Row) (taken : List (List ℕ)) (v : ℕ × Lv) → visible_from number name rows ≡ Some v
      → AreNames taken (map (λ (row : Row). row.0) rows) → IsSplit rows v.1
  split number [] taken v found are = absurd cc
  split number (row ∷ rows) taken v found are =
      by (row.1.status.visible && bytes_eq row.0 name) refl found (λ made. split (number + 1) rows (row.0 ∷ taken) v made are.2) where
        other : IsSplit rows v.1 → (b : Bool) → bytes_eq row.0 name ≡ b → b ≡ false
        other rest true is =
            let all : Each IsOther rows =
            all_other rows (row.0 ∷ taken) are.2 (among_first name row.0 taken (same_bytes_tells row.0 name is)) in
            absurd (true≢false (sym rest.named ∙ each_between IsOther rest.before rest.after rest.row
            (subst (Each IsOther) rest.rows_is all)))
        other rest false is = refl

        by : (b : Bool) → (row.1.status.visible && bytes_eq row.0 name) ≡ b
            → cond b (Some (number, row.1)) (visible_from (number + 1) name rows) ≡ Some v
            → (visible_from (number + 1) name rows ≡ Some v → IsSplit rows v.1) → IsSplit (row ∷ rows) v.1
        by true is made later =
            let both = both_true row.1.status.visible (bytes_eq row.0 name) is in
            record {
              before = [];
              row = row;
              after = rows;
              rows_is = refl;
              is_volume = ap (λ (u : ℕ × Lv). u.1) (same_Some (number, row.1) v made);
              named = both.1;
              seen = both.0;
              earlier = tt;
              later = all_other rows (row.0 ∷ taken) are.2 (among_first name row.0 taken (same_bytes_tells row.0 name both.1));
            }
        by false is made later =
            let rest : IsSplit rows v.1 = later made in
            record {
              before = row ∷ rest.before;
              row = rest.row;
              after = rest.after;
              rows_is = ap (λ (rs : List Row). row ∷ rs) rest.rows_is;
              is_volume = rest.is_volume;
              named = rest.named;
              seen = rest.seen;
              earlier = (other rest (bytes_eq row.0 name) refl, rest.earlier);
              later = rest.later;
            }

  -- ---- the change of the volume of the name

  module _ (change : Row → Row) where
    others_stay : (rows : List Row) → Each IsOther rows → map (changed_if name change) rows ≡ rows
    others_stay [] all = refl
    others_stay (row ∷ rows) all =
        ap (λ (b : Bool). cond b (change row) row ∷ map (changed_if name change) rows) all.0
        ∙ ap (λ (rs : List Row). row ∷ rs) (others_stay rows all.1)

    pub change_between : (before after : List Row) (row : Row) → Each IsOther before → Each IsOther after → bytes_eq row.0 name ≡ true
        → map (changed_if name change) (before ++ row ∷ after) ≡ before ++ change row ∷ after
    change_between [] after row earlier later named =
        ap (λ (b : Bool). cond b (change row) row ∷ map (changed_if name change) after) named
        ∙ ap (λ (rs : List Row). change row ∷ rs) (others_stay after later)
    change_between (r ∷ before) after row earlier later named =
        ap (λ (b : Bool). cond b (change r) r ∷ map (changed_if name change) (before ++ row ∷ after)) earlier.0
        ∙ ap (λ (rs : List Row). r ∷ rs) (change_between before after row earlier.1 later named)
