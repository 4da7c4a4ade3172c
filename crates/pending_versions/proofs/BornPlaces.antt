-- The places of the volume that a command creates or makes longer.
use Rattle.std.proofs.Common.{◌≡◌, ℕ, ◌||◌, Bool, true, false, if◌then◌else◌, List, [], ◌∷◌, ◌++◌, drop, length, Option, refl, ap, ◌∙◌}
use Rattle.std.specs.Str.{bytes_eq}
use Rattle.std.proofs.lemmas.List.{drop_at}
use Rattle.list_laws.proofs.Bools.{itself}
use Rattle.command_table.specs.Commands.{NextVersion, VolumeAdded, VolumeLonger}
use Rattle.vg_scan.specs.Versions.{Version}
use Rattle.volume_history.specs.Changing.{KindChanges, changed_named, grown_by, has_named}
use Rattle.volume_history.specs.Placed.{Place, PlacedVolume, volumes_of}
use Rattle.volume_history.specs.Replay.{places_named}
use Rattle.pending_versions.specs.Births.{born_places}

-- the places of the volume of a name, once it is changed
pub places_changed : (name : List ℕ) (change : PlacedVolume → PlacedVolume) (g : List Place → List Place)
    → ((v : PlacedVolume) → (change v).name ≡ v.name) → ((v : PlacedVolume) → (change v).places ≡ g v.places)
    → (vs : List PlacedVolume) → has_named name vs ≡ true → places_named (changed_named name change vs) name ≡ g (places_named vs name)
places_changed name change g same_name is [] has = absurd cc
places_changed name change g same_name is (v ∷ vs) has =
    by (λ more. places_changed name change g same_name is vs more) (bytes_eq v.name name) refl has
  where
    by : (has_named name vs ≡ true → places_named (changed_named name change vs) name ≡ g (places_named vs name)) → (b : Bool)
        → bytes_eq v.name name ≡ b → (b || has_named name vs) ≡ true
        → places_named (if b then change v ∷ vs else v ∷ changed_named name change vs) name
        ≡ g (if b then v.places else places_named vs name)
    by rest true named has' =
        ap (λ (n : List ℕ). if bytes_eq n name then (change v).places else places_named vs name) (same_name v)
        ∙ ap (λ (b : Bool). if b then (change v).places else places_named vs name) named ∙ is v
    by rest false named has' =
        ap (λ (b : Bool). if b then v.places else places_named (changed_named name change vs) name) named ∙ rest has'

-- those of one that is added
pub places_last : (name : List ℕ) (vs : List PlacedVolume) (v : PlacedVolume) → has_named name vs ≡ false → bytes_eq v.name name ≡ true
    → places_named (vs ++ v ∷ []) name ≡ v.places
places_last name [] v none named = ap (λ (b : Bool). if b then v.places else []) named
places_last name (u ∷ vs) v none named =
    by (bytes_eq u.name name) (λ none. places_last name vs v none named) none
  where
    by : (b : Bool) → (has_named name vs ≡ false → places_named (vs ++ v ∷ []) name ≡ v.places) → (b || has_named name vs) ≡ false
        → (if b then u.places else places_named (vs ++ v ∷ []) name) ≡ v.places
    by true rest none = cc
    by false rest none = rest none

module _ (lv : List ℕ) (before after : Option Version) where
  -- those of a new volume
  pub added_places : (is : KindChanges (VolumeAdded lv) before after) → places_named (volumes_of after) lv ≡ is.0.places
  added_places is =
      ap (λ (l : List PlacedVolume). places_named l lv) is.2
      ∙ places_last lv (volumes_of before) is.0 is.3 (ap (λ (n : List ℕ). bytes_eq n lv) is.1 ∙ itself lv)

  -- those of a longer one, of which the ones behind its old end are born
  pub longer_places : (is : KindChanges (NextVersion (VolumeLonger lv)) before after)
      → places_named (volumes_of after) lv ≡ places_named (volumes_of before) lv ++ is.0
  longer_places is =
      ap (λ (l : List PlacedVolume). places_named l lv) is.1
      ∙ places_changed lv (grown_by is.0) (λ l. l ++ is.0) (λ v. refl) (λ v. refl) (volumes_of before) is.2

  pub longer_born : (is : KindChanges (NextVersion (VolumeLonger lv)) before after)
      → born_places (NextVersion (VolumeLonger lv)) before after ≡ is.0
  longer_born is =
      ap (drop (length (places_named (volumes_of before) lv))) (longer_places is)
      ∙ drop_at (places_named (volumes_of before) lv) is.0 (length (places_named (volumes_of before) lv)) refl
