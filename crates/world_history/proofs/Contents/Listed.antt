-- The list of volumes: that of the world's table is that of the machine.
use Rattle.std.proofs.Common.{◌≡◌, ℕ, ◌+◌, ◌*◌, Bool, true, false, cond, List, [], ◌∷◌, length, map, Option, Some, None, sym, ap, ◌∙◌, refl}
use Rattle.std.specs.Prelude.{slice_get}
use Rattle.std.specs.Option.{option_map_or}
use Rattle.std.proofs.lemmas.List.{length-map}
use Rattle.std.proofs.lemmas.List.FromFn.{length-map-range_with_len}
use Rattle.disk_model.specs.Steps.{Image}
use Rattle.meta_model.specs.declared.group.Group.{Group}
use Rattle.vg_scan.specs.Versions.{Version}
use Rattle.line_table.specs.Machine.{PlainVolume, list_of}
use Rattle.seg_place.specs.Sectors.{sectors_of}
use Rattle.volume_rules.specs.Extents.{extents_of}
use Rattle.volume_history.specs.Placed.{Place, PlacedVolume, place_of, placed_from, places_of, values_on, volumes_of}
use Rattle.volume_history.specs.Replay.{opening_volumes}
use Rattle.line_plans.specs.Plans.{listed_of, listed_row}
use Rattle.world_acts.specs.declared.volumes.Volumes.{Volumes}
use Rattle.world_acts.specs.Volumes.{AreLaidOut, rows_at_opening, visible_rows}
use Rattle.world_history.proofs.Contents.Rows.{Row, StandFrom, all_stand, first_stands, rest_stand, sectors_are}
use Rattle.world_history.specs.Shown.{AreOfVersion, shown_state}

-- a machine's volume, as it is listed
abbrev listed : PlainVolume → List ℕ × ℕ
listed v = (v.name, length v.sectors)

module _ (image : Image) (version : Version) where
  -- as many sectors as the volume has
  many : (number : ℕ) (row : Row) → slice_get version.group.lvs number ≡ Some row
      → length (values_on image (places_of version number row.1)) ≡ sectors_of version.group number
  many number row there =
      length-map (places_of version number row.1) (λ (p : Place). image p.disk p.sector)
      ∙ length-map-range_with_len (place_of version number) 0 (extents_of row.1 * version.group.extent_size)
      ∙ sym (sectors_are version.group number row there)

  own : (key number : ℕ) (row : Row) → slice_get version.group.lvs number ≡ Some row
      → (row.0, length (values_on image (places_of version number row.1)))
      ≡ listed_row version.group (record { key = key; lv = number })
  own key number row there =
      ap (λ (n : ℕ). (row.0, n)) (many number row there)
      ∙ sym (ap (λ (o : Option Row). (option_map_or (λ (r : Row). r.0) o [], sectors_of version.group number)) there)

  listed_from : (key number : ℕ) (rows : List Row) → StandFrom version.group number rows
      → map listed (opening_volumes image key (placed_from version number rows))
      ≡ map (listed_row version.group) (visible_rows key number rows)
  listed_from key number [] stand = refl
  listed_from key number (row ∷ rows) stand =
      by row.1.status.visible (listed_from (key + 1) (number + 1) rows (rest_stand version.group number row rows stand))
      (listed_from key (number + 1) rows (rest_stand version.group number row rows stand))
    where
      placed : PlacedVolume
      placed = record { id = row.1.id; name = row.0; places = places_of version number row.1 }

      by : (seen : Bool)
          → map listed (opening_volumes image (key + 1) (placed_from version (number + 1) rows))
          ≡ map (listed_row version.group) (visible_rows (key + 1) (number + 1) rows)
          → map listed (opening_volumes image key (placed_from version (number + 1) rows))
          ≡ map (listed_row version.group) (visible_rows key (number + 1) rows)
          → map listed (opening_volumes image key (cond seen (placed ∷ placed_from version (number + 1) rows)
          (placed_from version (number + 1) rows)))
          ≡ map (listed_row version.group) (cond seen (record { key = key; lv = number } ∷ visible_rows (key + 1) (number + 1) rows)
          (visible_rows key (number + 1) rows))
      by true shown hidden =
          ap (λ (l : List (List ℕ × ℕ)). (row.0, length (values_on image (places_of version number row.1))) ∷ l) shown
          ∙ ap (λ (x : List ℕ × ℕ). x ∷ map (listed_row version.group) (visible_rows (key + 1) (number + 1) rows))
          (own key number row (first_stands version.group number row rows stand))
      by false shown hidden = hidden

  all_listed : list_of (shown_state (Some version) image) ≡ map (listed_row version.group) (visible_rows 0 0 version.group.lvs)
  unfolding volumes_of
  all_listed = listed_from 0 0 version.group.lvs (all_stand version.group)

no_group : (image : Image) → list_of (shown_state None image) ≡ []
unfolding volumes_of
no_group image = refl

-- the world's list of its volumes is the machine's
pub listed_shown : (volumes : Volumes) (sizes : List ℕ) (version : Option Version) (image : Image) → AreLaidOut volumes sizes
    → AreOfVersion volumes version → list_of (shown_state version image) ≡ listed_of volumes
listed_shown volumes sizes None image laid of =
    no_group image ∙ sym (ap (λ (o : Option Group). option_map_or (λ (g : Group). map (listed_row g) volumes.rows.items) o []) of.group)
listed_shown volumes sizes (Some version) image laid of =
    all_listed image version ∙ sym (ap (map (listed_row version.group)) (of.rows ∙ ap rows_at_opening of.group))
    ∙ sym (ap (λ (o : Option Group). option_map_or (λ (g : Group). map (listed_row g) volumes.rows.items) o []) of.group)
