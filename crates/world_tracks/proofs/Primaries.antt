-- Each place of a version's volumes is the primary place of a sector.
use Rattle.std.proofs.Common.{◌≡◌, ◌<◌, ℕ, zero, suc, ◌+◌, ◌*◌, Bool, true, false, cond, List, [], ◌∷◌, Option, Some, sym, ap, ◌∙◌, arith}
use Rattle.std.specs.Prelude.{option_map, slice_get, unwrap_or}
use Rattle.std.proofs.lemmas.List.FromFn.{get_or-map-range_with_len, length-map-range_with_len}
use Rattle.std.proofs.lemmas.Option.{get_or_from_slice_get, slice_get_within}
use Rattle.sector_base.specs.declared.places.At.{At}
use Rattle.volume_rules.specs.Extents.{extents_of}
use Rattle.volume_rules.specs.Rules.{IsAccepted}
use Rattle.volume_view.specs.Places.{primary}
use Rattle.volume_view.proofs.PrimariesStand.{primary_stands}
use Rattle.vg_scan.specs.Versions.{Version}
use Rattle.volume_history.specs.Placed.{Place, PlacedVolume, no_place, on_disk, place_of, placed_from, places_of, volumes_of}
use Rattle.world_history.proofs.Contents.Rows.{Row, StandFrom, all_stand, first_stands, rest_stand}
use Rattle.world_history.specs.Shown.{places_keyed}

-- the place is that of a sector of a physical volume
pub record IsPrimaryAt (version : Version) (p : Place) : Type 0 where
  pub lv : ℕ
  pub sector : ℕ
  pub at : At
  pub is : primary version.group lv sector ≡ Some at
  pub place : p ≡ on_disk version.disk_of at

-- a sector's place is its primary one, on its disk
primary_place : (version : Version) (lv x : ℕ) (at : At) → primary version.group lv x ≡ Some at
    → place_of version lv x ≡ on_disk version.disk_of at
unfolding place_of
primary_place version lv x at is = ap (λ (o : Option At). unwrap_or (option_map (on_disk version.disk_of) o) no_place) is

module _ (version : Version) (accepted : IsAccepted version.group) where
  -- of the volume with this number
  at_number : (number : ℕ) (row : Row) → slice_get version.group.lvs number ≡ Some row → (x : ℕ) (p : Place)
      → slice_get (places_of version number row.1) x ≡ Some p → IsPrimaryAt version p
  at_number number row there x p got =
      let many : ℕ = extents_of row.1 * version.group.extent_size in
      let lt : x < many =
      omega (
        arith,
        slice_get_within (places_of version number row.1) x p got,
        length-map-range_with_len (place_of version number) 0 many,
      ) in
      let stands = primary_stands version.group number x row accepted there lt in
      record {
        lv = number;
        sector = x;
        at = stands.0;
        is = stands.1;
        place =
            sym (get_or_from_slice_get (places_of version number row.1) x p no_place got)
            ∙ get_or-map-range_with_len (place_of version number) 0 many x x no_place lt (omega arith)
            ∙ primary_place version number x stands.0 stands.1;
      }

  -- of those from a number on
  from_rows : (number : ℕ) (rows : List Row) → StandFrom version.group number rows → (key x : ℕ) (p : Place)
      → slice_get (places_keyed (placed_from version number rows) key) x ≡ Some p → IsPrimaryAt version p
  from_rows number [] stand key x p got = absurd cc
  from_rows number (row ∷ rows) stand key x p got =
      by row.1.status.visible key got (from_rows (number + 1) rows (rest_stand version.group number row rows stand)) where
        placed : PlacedVolume
        placed = record { id = row.1.id; name = row.0; places = places_of version number row.1 }

        later : List PlacedVolume
        later = placed_from version (number + 1) rows

        by : (seen : Bool) (k : ℕ) → slice_get (places_keyed (cond seen (placed ∷ later) later) k) x ≡ Some p
            → ((j y : ℕ) (q : Place) → slice_get (places_keyed later j) y ≡ Some q → IsPrimaryAt version q)
            → IsPrimaryAt version p
        by true zero is rest = at_number number row (first_stands version.group number row rows stand) x p is
        by true (suc k) is rest = rest k x p is
        by false k is rest = rest k x p is

  -- of all
  pub place_is_primary : (key x : ℕ) (p : Place) → slice_get (places_keyed (volumes_of (Some version)) key) x ≡ Some p
      → IsPrimaryAt version p
  unfolding volumes_of
  place_is_primary key x p got = from_rows 0 version.group.lvs (all_stand version.group) key x p got
