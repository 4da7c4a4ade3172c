-- The volumes of a group in which the visible volume of a name is changed.
use Rattle.std.proofs.Common.{◌≡◌, ℕ, ◌+◌, Bool, true, false, ◌||◌, ◌&&◌, cond, List, [], ◌∷◌, map, Some, refl, sym, ap, ◌∙◌}
use Rattle.std.specs.Prelude.{nat_eq, slice_get}
use Rattle.std.specs.Cmp.Lexicographic.{pointwise}
use Rattle.std.specs.List.{AllByRecursion as Each}
use Rattle.std.proofs.lemmas.Bool.{true≢false}
use Rattle.std.proofs.lemmas.Option.{same_Some}
use Rattle.std.specs.Str.{bytes_eq}
use Rattle.lvm_name.specs.Names.{is_among}
use Rattle.meta_model.specs.Standing.{HasTree}
use Rattle.meta_model.specs.declared.lv.Lv.{Lv}
use Rattle.meta_print.proofs.GroupFrom.{printable}
use Rattle.meta_print.proofs.NamesOfText.{pointwise_same}
use Rattle.meta_print.proofs.Printable.{AreNames}
use Rattle.scan_rules.proofs.Scanning.{same_bytes_tells}
use Rattle.group_edits.specs.NextVersion.{changed_if}
use Rattle.group_edits.specs.Visible.{visible_from, visible_named}
use Rattle.vg_scan.specs.Versions.{Version}
use Rattle.volume_history.specs.Changing.{changed_named}
use Rattle.volume_history.specs.Placed.{Place, PlacedVolume, placed_from, places_of, volumes_of}
use Rattle.line_history.proofs.KeptVolumes.{StandFrom, all_stand, first_stands, rest_stand}

abbrev pub Row : Type 0
Row = List ℕ × Lv

-- the volume of the row with this number
abbrev pub placed_in : Version → ℕ → Row → PlacedVolume
placed_in version number row = record { id = row.1.id; name = row.0; places = places_of version number row.1 }

pub or_true : (a b : Bool) → b ≡ true → (a || b) ≡ true
or_true true b is = refl
or_true false b is = is

-- no row behind it has its name
pub others_named : (old : List ℕ) (rows : List (List ℕ × Lv)) (taken : List (List ℕ))
    → AreNames taken (map (λ (row : List ℕ × Lv). row.0) rows) → is_among taken old ≡ true
    → Each (λ (row : List ℕ × Lv). bytes_eq row.0 old ≡ false) rows
others_named old [] taken are among = tt
others_named old (row ∷ rows) taken are among = (
  by (bytes_eq row.0 old) refl,
  others_named old rows (row.0 ∷ taken) are.2
      (or_true (pointwise nat_eq old row.0) (is_among taken old) among),
) where
  by : (b : Bool) → bytes_eq row.0 old ≡ b → b ≡ false
  by true is = absurd (true≢false (sym among ∙ ap (is_among taken) (sym (same_bytes_tells row.0 old is)) ∙ are.1))
  by false is = refl

-- Rows of other names keep their places, and the changed volume is what the function makes of the one that was.
pub record ChangesOne (name : List ℕ) (change : Row → Row) (make : PlacedVolume → PlacedVolume) (before after : Version)
    (v : ℕ × Lv) : Type 0 where
  pub rows : after.group.lvs ≡ map (changed_if name change) before.group.lvs
  pub seen : (row : Row) → (change row).1.status.visible ≡ row.1.status.visible
  pub kept : (number : ℕ) (row : Row) → slice_get before.group.lvs number ≡ Some row → bytes_eq row.0 name ≡ false
      → places_of after number row.1 ≡ places_of before number row.1
  pub made : (number : ℕ) (row : Row) → slice_get before.group.lvs number ≡ Some row → bytes_eq row.0 name ≡ true → (number, row.1) ≡ v
      → placed_in after number (change row) ≡ make (placed_in before number row)

module _ (name : List ℕ) (change : Row → Row) (make : PlacedVolume → PlacedVolume) (before after : Version) (v : ℕ × Lv)
    (changes : ChangesOne name change make before after v) where
  abbrev changed : Row → Row
  changed row = changed_if name change row

  -- a row, where it is known whether it has the name
  row_after : (number : ℕ) (row : Row) (rows : List Row) (b : Bool) → bytes_eq row.0 name ≡ b
      → placed_from after number (map changed (row ∷ rows))
      ≡ cond row.1.status.visible (placed_in after number (cond b (change row) row) ∷ placed_from after (number + 1) (map changed rows))
      (placed_from after (number + 1) (map changed rows))
  row_after number row rows b is = ap (λ (same : Bool). listed (cond same (change row) row)) is ∙ by b where
    later : List PlacedVolume
    later = placed_from after (number + 1) (map changed rows)

    listed : Row → List PlacedVolume
    listed r = cond r.1.status.visible (placed_in after number r ∷ later) later

    by : (b : Bool) → listed (cond b (change row) row)
        ≡ cond row.1.status.visible (placed_in after number (cond b (change row) row) ∷ later) later
    by true = ap (λ (s : Bool). cond s (placed_in after number (change row) ∷ later) later) (changes.seen row)
    by false = refl

  -- one of another name
  row_kept : (number : ℕ) (row : Row) (rows : List Row) → StandFrom before.group number (row ∷ rows) → bytes_eq row.0 name ≡ false
      → placed_from after number (map changed (row ∷ rows))
      ≡ cond row.1.status.visible (placed_in before number row ∷ placed_from after (number + 1) (map changed rows))
      (placed_from after (number + 1) (map changed rows))
  row_kept number row rows stand other =
      let later : List PlacedVolume = placed_from after (number + 1) (map changed rows) in
      row_after number row rows false other
      ∙ ap (λ (l : List Place). cond row.1.status.visible (record { id = row.1.id; name = row.0; places = l } ∷ later) later)
      (changes.kept number row (first_stands before.group number row rows stand) other)

  others_kept : (number : ℕ) (rows : List Row) → StandFrom before.group number rows
      → Each (λ (row : Row). bytes_eq row.0 name ≡ false) rows
      → placed_from after number (map changed rows) ≡ placed_from before number rows
  others_kept number [] stand other = refl
  others_kept number (row ∷ rows) stand other =
      row_kept number row rows stand other.0
      ∙ ap (λ (l : List PlacedVolume). cond row.1.status.visible (placed_in before number row ∷ l) l)
      (others_kept (number + 1) rows (rest_stand before.group number row rows stand) other.1)

  -- the visible one is changed
  changed_from : (number : ℕ) (rows : List Row) (taken : List (List ℕ)) → StandFrom before.group number rows
      → visible_from number name rows ≡ Some v → AreNames taken (map (λ (row : Row). row.0) rows)
      → placed_from after number (map changed rows) ≡ changed_named name make (placed_from before number rows)
  changed_from number [] taken stand is are = absurd cc
  changed_from number (row ∷ rows) taken stand is are =
      by row.1.status.visible (bytes_eq row.0 name) refl refl is
      (λ made. changed_from (number + 1) rows (row.0 ∷ taken) (rest_stand before.group number row rows stand) made are.2)
    where
      later : List PlacedVolume
      later = placed_from before (number + 1) rows

      later_after : List PlacedVolume
      later_after = placed_from after (number + 1) (map changed rows)

      rest_changed : List PlacedVolume
      rest_changed = changed_named name make later

      -- the first of the placed ones, where it has this name or another one
      first_named : (b : Bool) → bytes_eq row.0 name ≡ b
          → changed_named name make (placed_in before number row ∷ later)
          ≡ cond b (make (placed_in before number row) ∷ later) (placed_in before number row ∷ rest_changed)
      first_named b same =
          ap (λ (c : Bool). cond c (make (placed_in before number row) ∷ later) (placed_in before number row ∷ rest_changed)) same

      by : (visible same : Bool) → row.1.status.visible ≡ visible → bytes_eq row.0 name ≡ same
          → cond (visible && same) (Some (number, row.1)) (visible_from (number + 1) name rows) ≡ Some v
          → (visible_from (number + 1) name rows ≡ Some v → later_after ≡ rest_changed)
          → placed_from after number (map changed (row ∷ rows))
          ≡ changed_named name make (cond visible (placed_in before number row ∷ later) later)
      by true true shown same made rest =
          row_after number row rows true same
          ∙ ap (λ (b : Bool). cond b (placed_in after number (change row) ∷ later_after) later_after) shown
          ∙ ap (λ (p : PlacedVolume). p ∷ later_after)
          (changes.made number row (first_stands before.group number row rows stand) same (same_Some (number, row.1) v made))
          ∙ ap (λ (l : List PlacedVolume). make (placed_in before number row) ∷ l)
          (others_kept (number + 1) rows (rest_stand before.group number row rows stand)
          (others_named name rows (row.0 ∷ taken) are.2
          (ap (λ (b : Bool). b || is_among taken name)
          (ap (pointwise nat_eq name) (same_bytes_tells row.0 name same) ∙ pointwise_same name))))
          ∙ sym (first_named true same)
      by true false shown same made rest =
          row_kept number row rows stand same
          ∙ ap (λ (b : Bool). cond b (placed_in before number row ∷ later_after) later_after) shown
          ∙ ap (λ (l : List PlacedVolume). placed_in before number row ∷ l) (rest made)
          ∙ sym (first_named false same)
      by false same hidden is_same made rest =
          row_after number row rows same is_same
          ∙ ap (λ (b : Bool). cond b (placed_in after number (cond same (change row) row) ∷ later_after) later_after) hidden
          ∙ rest made

  -- so it is in the group
  pub volumes_changed : HasTree before.group → visible_named before.group name ≡ Some v
      → volumes_of (Some after) ≡ changed_named name make (volumes_of (Some before))
  unfolding visible_named volumes_of
  volumes_changed tree found =
      ap (placed_from after 0) changes.rows
      ∙ changed_from 0 before.group.lvs [] (all_stand before.group) found (printable before.group tree).lv_names
