-- The values of the placed volumes are the view of the group.
use Rattle.std.proofs.Common.{◌≡◌, ◌<◌, ℕ, zero, suc, ◌+◌, ◌*◌, Bool, true, false, if◌then◌else◌, List, [], ◌∷◌, map, Option, Some, refl}
use Rattle.std.proofs.Common.{sym, ap, subst, ◌∙◌, arith, option_map, unwrap_or, slice_get}
use Rattle.std.specs.List.{range_with_len}
use Rattle.disk_model.specs.Steps.{Image}
use Rattle.vg_scan.specs.Versions.{Version}
use Rattle.meta_model.specs.declared.lv.Lv.{Lv}
use Rattle.sector_base.specs.declared.places.At.{At}
use Rattle.volume_history.specs.Placed.{Place, PlacedVolume, no_place, on_disk, place_of, placed_from, places_of, values_on, volumes_of}
use Rattle.volume_rules.specs.Extents.{extents_of}
use Rattle.volume_view.specs.Places.{primary}
use Rattle.volume_view.specs.View.{at_place, content, contents, view, views_from}

-- functions that are equal on a range
map_same : (f g : ℕ → List ℕ) (from count : ℕ) → ((k : ℕ) → k < from + count → f k ≡ g k)
    → map f (range_with_len from count) ≡ map g (range_with_len from count)
map_same f g from zero same = refl
map_same f g from (suc count) same =
    ap (λ (x : List ℕ). x ∷ map f (range_with_len (from + 1) count)) (same from (omega arith))
    ∙ ap (λ (l : List (List ℕ)). g from ∷ l) (map_same f g (from + 1) count (λ k lt. same k (omega arith)))

-- one function after another on a list
map_both : (f : Place → List ℕ) (g : ℕ → Place) (xs : List ℕ) → map f (map g xs) ≡ map (λ (x : ℕ). f (g x)) xs
map_both f g [] = refl
map_both f g (x ∷ xs) = ap (λ (l : List (List ℕ)). f (g x) ∷ l) (map_both f g xs)

-- what stands at the place of a sector is its content, where it has a place
at_place_of : (image : Image) (version : Version) (lv sector : ℕ) (at : At) → primary version.group lv sector ≡ Some at
    → image (place_of version lv sector).disk (place_of version lv sector).sector ≡ content image version.group version.disk_of lv sector
unfolding place_of content
at_place_of image version lv sector at is =
    ap (λ (o : Option At). image (unwrap_or (option_map (on_disk version.disk_of) o) no_place).disk
    (unwrap_or (option_map (on_disk version.disk_of) o) no_place).sector) is
    ∙ sym (ap (λ (o : Option At). unwrap_or (option_map (at_place image version.disk_of) o) []) is)

-- a placed volume with what its places hold
abbrev pub seen : Image → PlacedVolume → List ℕ × List (List ℕ)
seen image v = (v.name, values_on image v.places)

first_seen : (visible : Bool) (image : Image) (v : PlacedVolume) (vs : List PlacedVolume) (c : List (List ℕ))
    (rest : List (List ℕ × List (List ℕ))) → values_on image v.places ≡ c → map (seen image) vs ≡ rest
    → map (seen image) (if visible then v ∷ vs else vs) ≡ (if visible then (v.name, c) ∷ rest else rest)
first_seen true image v vs c rest same more =
    ap (λ (x : List (List ℕ)). (v.name, x) ∷ map (seen image) vs) same ∙ ap (λ (l : List (List ℕ × List (List ℕ))). (v.name, c) ∷ l) more
first_seen false image v vs c rest same more = more

module _ (image : Image) (version : Version)
    (stand : (lv sector : ℕ) (volume : List ℕ × Lv) → slice_get version.group.lvs lv ≡ Some volume
    → sector < extents_of volume.1 * version.group.extent_size → (at : At) × (primary version.group lv sector ≡ Some at)) where
  placed_seen : (number : ℕ) (lvs : List (List ℕ × Lv))
      → ((k : ℕ) (volume : List ℕ × Lv) → slice_get lvs k ≡ Some volume → slice_get version.group.lvs (number + k) ≡ Some volume)
      → map (seen image) (placed_from version number lvs) ≡ views_from image version.group version.disk_of number lvs
  placed_seen number [] all = refl
  placed_seen number (lv ∷ lvs) all =
      let here : slice_get version.group.lvs number ≡ Some lv =
      subst (λ (n : ℕ). slice_get version.group.lvs n ≡ Some lv) (omega arith) (all zero lv refl) in
      first_seen lv.1.status.visible image (record { id = lv.1.id; name = lv.0; places = places_of version number lv.1 })
      (placed_from version (number + 1) lvs)
      (contents image version.group version.disk_of number lv.1) (views_from image version.group version.disk_of (number + 1) lvs)
      (map_both (λ (p : Place). image p.disk p.sector) (place_of version number)
      (range_with_len 0 (extents_of lv.1 * version.group.extent_size))
      ∙ map_same (λ (x : ℕ). image (place_of version number x).disk (place_of version number x).sector)
      (content image version.group version.disk_of number) 0 (extents_of lv.1 * version.group.extent_size)
      (λ sector lt. let at = stand number sector lv here (omega (arith, lt)) in at_place_of image version number sector at.0 at.1))
      (placed_seen (number + 1) lvs (λ k volume is. subst (λ (n : ℕ). slice_get version.group.lvs n ≡ Some volume) (omega arith)
      (all (suc k) volume is)))

  pub volumes_seen : map (seen image) (volumes_of (Some version)) ≡ view image version.group version.disk_of
  unfolding volumes_of view
  volumes_seen =
      placed_seen 0 version.group.lvs (λ k volume is. subst (λ (n : ℕ). slice_get version.group.lvs n ≡ Some volume) (omega arith) is)
