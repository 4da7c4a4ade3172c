-- From what every image has at the places of the group that was found to what a crash may leave there.
use Rattle.std.proofs.Common.{◌≡◌, ◌<◌, ℕ, zero, suc, ◌+◌, ◌*◌, Bool, true, false, cond, List, [], ◌∷◌, map, Option, Some, None, refl, sym}
use Rattle.std.proofs.Common.{subst, arith}
use Rattle.std.specs.Prelude.{IfSome, option_map, slice_get, slice_index, unwrap_or}
use Rattle.std.specs.List.{range_with_len}
use Rattle.sector_base.specs.declared.places.At.{At}
use Rattle.disk_model.specs.CrashValues.{IsImage, MayLeave}
use Rattle.disk_model.specs.Record.{IsRecord}
use Rattle.disk_model.specs.Steps.{Image, Record}
use Rattle.disk_model.proofs.SectorImages.{leaves_by_images}
use Rattle.meta_model.specs.declared.group.Group.{Group}
use Rattle.meta_model.specs.declared.lv.Lv.{Lv}
use Rattle.volume_rules.specs.Extents.{extents_of}
use Rattle.volume_rules.specs.Rules.{IsAccepted}
use Rattle.volume_view.specs.Places.{primary}
use Rattle.volume_view.specs.View.{at_place}
use Rattle.volume_view.proofs.PrimariesStand.{primary_stands}
use Rattle.vg_found.specs.declared.found.Found.{Found}
use Rattle.vg_found.specs.Disks.{disks_of}
use Rattle.vg_found.specs.Shape.{HasShape}
use Rattle.vg_scan.specs.Scans.{IsScanOf}
use Rattle.vg_scan.specs.Versions.{Version, version_in}
use Rattle.repair_scans.proofs.FoundGroup.{found_accepted}
use Rattle.volume_history.specs.Placed.{Place, PlacedVolume, no_place, on_disk, place_of, placed_from, places_of, volumes_of}
use Rattle.volume_history.specs.Quiet.{AllUntouched, AreUntouched}

-- a crash may leave nothing at the place but what this image shows
abbrev IsUntouched : Image → Record → Place → Type 0
IsUntouched base told place =
    (write : Option ℕ) (value : List ℕ) → MayLeave told.opened told.steps place.disk place.sector write value
    → value ≡ base place.disk place.sector

-- where each place of a range has nothing else
range_untouched : (base : Image) (told : Record) (f : ℕ → Place) (from count : ℕ)
    → ((x : ℕ) → x < from + count → IsUntouched base told (f x)) → AreUntouched base (map f (range_with_len from count)) told
range_untouched base told f from zero each = tt
range_untouched base told f from (suc count) each =
    (each from (omega arith), range_untouched base told f (from + 1) count (λ x lt. each x (omega (arith, lt))))

first_untouched : (visible : Bool) (base : Image) (told : Record) (v : PlacedVolume) (vs : List PlacedVolume)
    → AreUntouched base v.places told → AllUntouched base vs told → AllUntouched base (cond visible (v ∷ vs) vs) told
first_untouched true base told v vs here later = (here, later)
first_untouched false base told v vs here later = later

module _ (base : Image) (told : Record) (is : IsRecord told.steps) (group : Group) (accepted : IsAccepted group) (disk_of : List ℕ)
    (same : (image : Image) → IsImage told image → (lv sector : ℕ) (at : At) → primary group lv sector ≡ Some at
    → at_place image disk_of at ≡ at_place base disk_of at) where
  abbrev version : Version
  version = record { group = group; disk_of = disk_of }

  one_untouched : (lv sector : ℕ) (at : At) → primary group lv sector ≡ Some at → IsUntouched base told (place_of version lv sector)
  unfolding place_of
  one_untouched lv sector at there =
      subst (λ (o : Option At). IsUntouched base told (unwrap_or (option_map (on_disk disk_of) o) no_place)) (sym there)
      (leaves_by_images told (slice_index disk_of at.pv) at.sector (λ value. value ≡ base (slice_index disk_of at.pv) at.sector) is
      (λ image has. same image has lv sector at there)).each

  untouched_from : (number : ℕ) (lvs : List (List ℕ × Lv))
      → ((k : ℕ) (lv : List ℕ × Lv) → slice_get lvs k ≡ Some lv → slice_get group.lvs (number + k) ≡ Some lv)
      → AllUntouched base (placed_from version number lvs) told
  untouched_from number [] there = tt
  untouched_from number (lv ∷ lvs) there =
      let here : slice_get group.lvs number ≡ Some lv =
      subst (λ (n : ℕ). slice_get group.lvs n ≡ Some lv) (omega arith) (there zero lv refl) in
      first_untouched lv.1.status.visible base told (record { id = lv.1.id; name = lv.0; places = places_of version number lv.1 })
      (placed_from version (number + 1) lvs)
      (range_untouched base told (place_of version number) 0 (extents_of lv.1 * group.extent_size)
      (λ sector lt. let at = primary_stands group number sector lv accepted here (omega (arith, lt)) in one_untouched number sector at.0
      at.1))
      (untouched_from (number + 1) lvs (λ k volume at. subst (λ (n : ℕ). slice_get group.lvs n ≡ Some volume) (omega arith)
      (there (suc k) volume at)))

  volumes_untouched : AllUntouched base (volumes_of (Some version)) told
  unfolding volumes_of
  volumes_untouched = untouched_from 0 group.lvs (λ k volume at. subst (λ (n : ℕ). slice_get group.lvs n ≡ Some volume) (omega arith) at)

abbrev AllHave : Image → Found → Record → Type 0
AllHave base found told =
    (image : Image) → IsImage told image → (group : Group) → found.group ≡ Some group → (lv sector : ℕ) (at : At)
    → primary group lv sector ≡ Some at → at_place image found.disk_of at ≡ at_place base found.disk_of at

by_group : (base : Image) (found : Found) (told : Record) → HasShape found → IsRecord told.steps → AllHave base found told
    → ((group : Group) → found.group ≡ Some group → IsAccepted group) → (o : Option Group) → found.group ≡ o
    → AllUntouched base (volumes_of (option_map (λ (group : Group). record { group = group; disk_of = disks_of group found.disks }) o)) told
unfolding volumes_of
by_group base found told shape is same accepted None there = tt
by_group base found told shape is same accepted (Some group) there =
    let listed : found.disk_of ≡ disks_of group found.disks =
    subst (λ (o : Option Group). IfSome o (λ g. found.disk_of ≡ disks_of g found.disks)) there shape.disk_of in
    subst (λ (l : List ℕ). AllUntouched base (volumes_of (Some (record { group = group; disk_of = l }))) told) listed
    (volumes_untouched base told is group (accepted group there) found.disk_of (λ image has. same image has group there))

-- what an image has at the places of the volumes that were found in another one
pub places_kept : (base mid : Image) (sizes : List ℕ) (found : Found) (told : Record) → IsScanOf base sizes found → HasShape found
    → IsRecord told.steps → AllHave mid found told → AllUntouched mid (volumes_of (version_in found)) told
places_kept base mid sizes found told scan shape is same =
    by_group mid found told shape is same (found_accepted base sizes found scan) found.group refl

pub places_untouched : (base : Image) (sizes : List ℕ) (found : Found) (told : Record) → IsScanOf base sizes found → HasShape found
    → IsRecord told.steps → AllHave base found told → AllUntouched base (volumes_of (version_in found)) told
places_untouched base sizes found told scan shape is same = places_kept base base sizes found told scan shape is same
