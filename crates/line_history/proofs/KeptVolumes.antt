-- The volumes of two versions, where sectors keep their primary places: their own places are the same.
use Rattle.std.proofs.Common.{◌≡◌, ◌<◌, ℕ, zero, suc, ◌+◌, ◌*◌, cond, List, [], ◌∷◌, map, Option, Some, refl, sym, ap, subst, ◌∙◌, arith}
use Rattle.std.specs.Prelude.{option_map, slice_get, slice_index, unwrap_or}
use Rattle.std.specs.List.{range_with_len}
use Rattle.sector_base.specs.declared.places.At.{At}
use Rattle.meta_model.specs.declared.group.Group.{Group}
use Rattle.meta_model.specs.declared.lv.Lv.{Lv}
use Rattle.meta_model.specs.declared.pv.Pv.{Pv}
use Rattle.volume_rules.specs.Extents.{extents_of}
use Rattle.volume_rules.specs.Rules.{IsAccepted}
use Rattle.volume_view.specs.Places.{primary}
use Rattle.volume_view.proofs.PrimariesStand.{primary_stands}
use Rattle.vg_scan.specs.Versions.{Version}
use Rattle.volume_view.specs.InExtents.{IsInExtents}
use Rattle.volume_view.proofs.InExtents.{primary_in_extents}
use Rattle.volume_history.specs.Placed.{Place, PlacedVolume, no_place, on_disk, place_of, placed_from, places_of, volumes_of}

-- ---- rows

-- these are the rows of the group from this number on
abbrev pub StandFrom : Group → ℕ → List (List ℕ × Lv) → Type 0
StandFrom group number rows = (k : ℕ) (row : List ℕ × Lv) → slice_get rows k ≡ Some row → slice_get group.lvs (number + k) ≡ Some row

pub all_stand : (group : Group) → StandFrom group 0 group.lvs
all_stand group k row is = subst (λ (n : ℕ). slice_get group.lvs n ≡ Some row) (omega arith) is

pub first_stands : (group : Group) (number : ℕ) (row : List ℕ × Lv) (rows : List (List ℕ × Lv)) → StandFrom group number (row ∷ rows)
    → slice_get group.lvs number ≡ Some row
first_stands group number row rows stand = subst (λ (n : ℕ). slice_get group.lvs n ≡ Some row) (omega arith) (stand zero row refl)

pub rest_stand : (group : Group) (number : ℕ) (row : List ℕ × Lv) (rows : List (List ℕ × Lv)) → StandFrom group number (row ∷ rows)
    → StandFrom group (number + 1) rows
rest_stand group number row rows stand k other is =
    subst (λ (n : ℕ). slice_get group.lvs n ≡ Some other) (omega arith) (stand (suc k) other is)

-- functions that are equal on a range
pub map_same : (f g : ℕ → Place) (from count : ℕ) → ((k : ℕ) → k < from + count → f k ≡ g k)
    → map f (range_with_len from count) ≡ map g (range_with_len from count)
map_same f g from zero same = refl
map_same f g from (suc count) same =
    ap (λ (x : Place). x ∷ map f (range_with_len (from + 1) count)) (same from (omega arith))
    ∙ ap (λ (l : List Place). g from ∷ l) (map_same f g (from + 1) count (λ k lt. same k (omega (arith, lt))))

-- ---- versions

-- each physical volume of the version has its disk in the other one
abbrev pub KeepsDisks : Version → Version → Type 0
KeepsDisks old new =
    (k : ℕ) (pv : List ℕ × Pv) → slice_get old.group.pvs k ≡ Some pv → slice_index new.disk_of k ≡ slice_index old.disk_of k

module _ (old new : Version) (accepted : IsAccepted old.group) (disks : KeepsDisks old new)
    (size : new.group.extent_size ≡ old.group.extent_size) where
  pub place_kept : (lv other sector : ℕ) (at : At) → primary old.group lv sector ≡ Some at → primary new.group other sector ≡ Some at
      → place_of new other sector ≡ place_of old lv sector
  unfolding place_of
  place_kept lv other sector at is there =
      let e : IsInExtents old.group at = primary_in_extents old.group accepted lv sector at is in
      ap (λ (o : Option At). unwrap_or (option_map (on_disk new.disk_of) o) no_place) there
      ∙ ap (λ (n : ℕ). record { disk = n; sector = at.sector }) (disks at.pv e.pv e.is_pv)
      ∙ sym (ap (λ (o : Option At). unwrap_or (option_map (on_disk old.disk_of) o) no_place) is)

  -- a volume of as many extents, whatever its number
  pub places_kept : (lv other : ℕ) (row : List ℕ × Lv) (copy : Lv) → slice_get old.group.lvs lv ≡ Some row
      → extents_of copy ≡ extents_of row.1
      → ((sector : ℕ) (at : At) → primary old.group lv sector ≡ Some at → primary new.group other sector ≡ Some at)
      → places_of new other copy ≡ places_of old lv row.1
  places_kept lv other row copy there extents kept =
      ap (λ (n : ℕ). map (place_of new other) (range_with_len 0 (n * new.group.extent_size))) extents
      ∙ ap (λ (n : ℕ). map (place_of new other) (range_with_len 0 (extents_of row.1 * n))) size
      ∙ map_same (place_of new other) (place_of old lv) 0 (extents_of row.1 * old.group.extent_size)
      (λ sector less. let at = primary_stands old.group lv sector row accepted there (omega (arith, less)) in place_kept lv other sector
      at.0 at.1 (kept sector at.0 at.1))

  module _ (kept : (lv sector : ℕ) (at : At) → primary old.group lv sector ≡ Some at → primary new.group lv sector ≡ Some at) where
    -- those of rows of the group
    pub volumes_from : (number : ℕ) (rows : List (List ℕ × Lv)) → StandFrom old.group number rows
        → placed_from new number rows ≡ placed_from old number rows
    volumes_from number [] stand = refl
    volumes_from number (row ∷ rows) stand =
        let places : places_of new number row.1 ≡ places_of old number row.1 =
        places_kept number number row row.1 (first_stands old.group number row rows stand) refl (kept number) in
        let later : placed_from new (number + 1) rows ≡ placed_from old (number + 1) rows =
        volumes_from (number + 1) rows (rest_stand old.group number row rows stand) in
        ap (λ (l : List Place). cond row.1.status.visible
        (record { id = row.1.id; name = row.0; places = l } ∷ placed_from new (number + 1) rows) (placed_from new (number + 1) rows))
        places
        ∙ ap (λ (l : List PlacedVolume). cond row.1.status.visible
        (record { id = row.1.id; name = row.0; places = places_of old number row.1 } ∷ l) l) later

    -- all of them, where it has the same rows
    pub volumes_kept : new.group.lvs ≡ old.group.lvs → volumes_of (Some new) ≡ volumes_of (Some old)
    unfolding volumes_of
    volumes_kept same = ap (placed_from new 0) same ∙ volumes_from 0 old.group.lvs (all_stand old.group)
