-- The volumes of a group that takes the place of another one of its name: names and ids of their own.
use Rattle.std.proofs.Common.{◌≡◌, ◌≢◌, ℕ, ◌+◌, Bool, true, false, ◌||◌, cond, List, [], ◌∷◌, ◌++◌, map, Some, None, refl, sym, ap, ◌∙◌}
use Rattle.std.specs.Str.{bytes_eq}
use Rattle.std.specs.List.{AllByRecursion as Each}
use Rattle.lvm_name.specs.Names.{is_among}
use Rattle.command_table.specs.declared.command.Command.TheVariants.{Vgcfgrestore}
use Rattle.meta_model.specs.Standing.{HasTree}
use Rattle.meta_model.specs.declared.group.Group.{Group}
use Rattle.meta_model.specs.declared.lv.Lv.{Lv}
use Rattle.meta_model.specs.declared.pv.Pv.{Pv}
use Rattle.meta_print.proofs.GroupFrom.{printable}
use Rattle.meta_print.proofs.NamesOfText.{pointwise_same}
use Rattle.meta_print.proofs.Printable.{AreNames}
use Rattle.volume_rules.specs.Rules.{IsAccepted, ids_of}
use Rattle.volume_rules.specs.declared.rule.Rule.TheVariants.{Ids}
use Rattle.list_laws.proofs.Pairs.{Pairs, pairs_from}
use Rattle.group_edits.specs.RestoredGroup.{restored_group}
use Rattle.vg_scan.specs.Versions.{Version}
use Rattle.list_laws.proofs.Bools.{same_text}
use Rattle.volume_history.specs.Changing.{ChangesVolumes, HaveOwnIds, HaveOwnNames, has_named}
use Rattle.volume_history.specs.Placed.{PlacedVolume, placed_from, places_of, volumes_of}
use Rattle.volume_history.specs.Replay.{volume_of_id}
use Rattle.line_history.proofs.NamedChanges.{others_named}

abbrev Row : Type 0
Row = List ℕ × Lv

-- the volume of a row
abbrev placed : Version → ℕ → Row → PlacedVolume
placed version number row = record { id = row.1.id; name = row.0; places = places_of version number row.1 }

-- ---- names

-- rows of other names give no volume of this one
none_named : (version : Version) (name : List ℕ) (number : ℕ) (rows : List Row) → Each (λ (row : Row). bytes_eq row.0 name ≡ false) rows
    → has_named name (placed_from version number rows) ≡ false
none_named version name number [] other = refl
none_named version name number (row ∷ rows) other = by row.1.status.visible (none_named version name (number + 1) rows other.1) where
  by : (seen : Bool) → has_named name (placed_from version (number + 1) rows) ≡ false
      → has_named name (cond seen (placed version number row ∷ placed_from version (number + 1) rows)
      (placed_from version (number + 1) rows)) ≡ false
  by true rest =
      ap (λ (b : Bool). b || has_named name (placed_from version (number + 1) rows)) (other.0) ∙ rest
  by false rest = rest

names_from : (version : Version) (number : ℕ) (rows : List Row) (taken : List (List ℕ)) → AreNames taken (map (λ (row : Row). row.0) rows)
    → HaveOwnNames (placed_from version number rows)
names_from version number [] taken are = tt
names_from version number (row ∷ rows) taken are =
    by row.1.status.visible
    (none_named version row.0 (number + 1) rows
    (others_named row.0 rows (row.0 ∷ taken) are.2 (ap (λ (b : Bool). b || is_among taken row.0) (pointwise_same row.0))))
    (names_from version (number + 1) rows (row.0 ∷ taken) are.2)
  where
    by : (seen : Bool) → has_named row.0 (placed_from version (number + 1) rows) ≡ false
        → HaveOwnNames (placed_from version (number + 1) rows)
        → HaveOwnNames (cond seen (placed version number row ∷ placed_from version (number + 1) rows)
        (placed_from version (number + 1) rows))
    by true none rest = (none, rest)
    by false none rest = rest

-- the volumes of a group with a text have names of their own
pub own_names : (version : Version) → HasTree version.group → HaveOwnNames (volumes_of (Some version))
unfolding volumes_of
own_names version tree = names_from version 0 version.group.lvs [] (printable version.group tree).lv_names

-- ---- ids

abbrev Differ : List ℕ → List ℕ → Type 0
Differ a b = a ≢ b

none_of_id : (version : Version) (id : List ℕ) (number : ℕ) (rows : List Row) → Each (Differ id) (map (λ (row : Row). row.1.id) rows)
    → volume_of_id (placed_from version number rows) id ≡ None
none_of_id version id number [] other = refl
none_of_id version id number (row ∷ rows) other = by row.1.status.visible (none_of_id version id (number + 1) rows other.1) where
  later : List PlacedVolume
  later = placed_from version (number + 1) rows

  same : (b : Bool) → bytes_eq row.1.id id ≡ b → b ≡ false
  same true is = absurd (other.0 (sym (same_text row.1.id id is)))
  same false is = refl

  by : (seen : Bool) → volume_of_id later id ≡ None → volume_of_id (cond seen (placed version number row ∷ later) later) id ≡ None
  by true rest =
      ap (λ (b : Bool). cond b (Some (placed version number row)) (volume_of_id later id)) (same (bytes_eq row.1.id id) refl) ∙ rest
  by false rest = rest

ids_from : (version : Version) (number : ℕ) (rows : List Row) → Pairs Differ (map (λ (row : Row). row.1.id) rows)
    → HaveOwnIds (placed_from version number rows)
ids_from version number [] pairs = tt
ids_from version number (row ∷ rows) pairs =
    by row.1.status.visible (none_of_id version row.1.id (number + 1) rows pairs.0) (ids_from version (number + 1) rows pairs.1) where
      by : (seen : Bool) → volume_of_id (placed_from version (number + 1) rows) row.1.id ≡ None
          → HaveOwnIds (placed_from version (number + 1) rows)
          → HaveOwnIds (cond seen (placed version number row ∷ placed_from version (number + 1) rows)
          (placed_from version (number + 1) rows))
      by true none rest = (none, rest)
      by false none rest = rest

-- pairs of the last ones of a list
pairs_behind : (front rest : List (List ℕ)) → Pairs Differ (front ++ rest) → Pairs Differ rest
pairs_behind [] rest pairs = pairs
pairs_behind (id ∷ front) rest pairs = pairs_behind front rest pairs.1

-- the volumes of a group that keeps the rules have ids of their own
pub own_ids : (version : Version) → IsAccepted version.group → HaveOwnIds (volumes_of (Some version))
unfolding volumes_of
own_ids version accepted =
    ids_from version 0 version.group.lvs
    (pairs_behind (map (λ (pv : List ℕ × Pv). pv.1.id) version.group.pvs) (map (λ (row : Row). row.1.id) version.group.lvs)
    (pairs_from Differ (ids_of version.group) (accepted Ids)).1)

-- ---- the restored group

-- the volumes of a text are ones that a group of its name may be given
pub restore_changes : (vg text : List ℕ) (before : Version) (said : Group) (disk_of : List ℕ) → HasTree before.group
    → IsAccepted (restored_group before.group said) → said.name ≡ before.group.name
    → ChangesVolumes (Vgcfgrestore vg text) (Some before) (Some (record { group = restored_group before.group said; disk_of = disk_of }))
restore_changes vg text before said disk_of tree accepted named = (
  own_names before tree,
  own_ids (record { group = restored_group before.group said; disk_of = disk_of }) accepted,
  ap (λ (name : List ℕ). Some name) named,
)
