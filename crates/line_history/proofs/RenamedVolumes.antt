-- The volumes of a group in which a visible volume has another name.
use Rattle.std.proofs.Common.{◌≡◌, ℕ, ◌+◌, Bool, true, false, ◌||◌, ◌&&◌, cond, List, [], ◌∷◌, Some, refl, ap}
use Rattle.std.specs.Prelude.{nat_eq, slice_get}
use Rattle.std.specs.Cmp.Lexicographic.{pointwise}
use Rattle.std.specs.Str.{bytes_eq}
use Rattle.meta_model.specs.Standing.{HasTree}
use Rattle.meta_model.specs.declared.lv.Lv.{Lv}
use Rattle.volume_rules.specs.Rules.{IsAccepted}
use Rattle.group_edits.proofs.RenamedPlaces.{primary_renamed}
use Rattle.group_edits.specs.RenamedVolume.{renamed_volume}
use Rattle.group_edits.specs.Visible.{visible_from, visible_named}
use Rattle.vg_scan.specs.Versions.{Version}
use Rattle.volume_history.specs.Changing.{changed_named, has_named, named_so}
use Rattle.volume_history.specs.Placed.{Place, PlacedVolume, placed_from, places_of, volumes_of}
use Rattle.line_history.proofs.KeptVolumes.{KeepsDisks, places_kept}
use Rattle.line_history.proofs.NamedChanges.{Row, or_true, volumes_changed}

-- ---- the volume of a name

-- a visible volume that is found by its name is one of the placed volumes
pub named_from : (version : Version) (name : List ℕ) (number : ℕ) (rows : List (List ℕ × Lv)) (v : ℕ × Lv)
    → visible_from number name rows ≡ Some v → has_named name (placed_from version number rows) ≡ true
named_from version name number [] v found = absurd cc
named_from version name number (row ∷ rows) v found =
    by row.1.status.visible (bytes_eq row.0 name) refl found (λ made. named_from version name (number + 1) rows v made) where
      later : List PlacedVolume
      later = placed_from version (number + 1) rows

      volume : PlacedVolume
      volume = record { id = row.1.id; name = row.0; places = places_of version number row.1 }

      by : (seen same : Bool) → bytes_eq row.0 name ≡ same
          → cond (seen && same) (Some (number, row.1)) (visible_from (number + 1) name rows) ≡ Some v
          → (visible_from (number + 1) name rows ≡ Some v → has_named name later ≡ true)
          → has_named name (cond seen (volume ∷ later) later) ≡ true
      by true true is made rest = ap (λ (b : Bool). b || has_named name later) (is)
      by true false is made rest = or_true (pointwise nat_eq row.0 name) (has_named name later) (rest made)
      by false same is made rest = rest made

pub named_in : (version : Version) (name : List ℕ) (v : ℕ × Lv) → visible_named version.group name ≡ Some v
    → has_named name (volumes_of (Some version)) ≡ true
unfolding visible_named volumes_of
named_in version name v found = named_from version name 0 version.group.lvs v found

-- ---- another name

pub volumes_renamed : (old new : List ℕ) (before : Version) (disk_of : List ℕ) → IsAccepted before.group
    → KeepsDisks before (record { group = renamed_volume old new before.group; disk_of = disk_of }) → HasTree before.group
    → (v : ℕ × Lv) → visible_named before.group old ≡ Some v
    → volumes_of (Some (record { group = renamed_volume old new before.group; disk_of = disk_of }))
    ≡ changed_named old (named_so new) (volumes_of (Some before))
volumes_renamed old new before disk_of accepted disks tree v found =
    volumes_changed old (λ (row : Row). (new, row.1)) (named_so new) before after v
    (record {
      rows = refl;
      seen = λ row. refl;
      kept = λ number row there other. kept number row there;
      made = λ number row there same is. ap (λ (l : List Place). record { id = row.1.id; name = new; places = l }) (kept number row there);
    }) tree found
  where
    after : Version
    after = record { group = renamed_volume old new before.group; disk_of = disk_of }

    -- a row has the same places
    kept : (number : ℕ) (row : Row) → slice_get before.group.lvs number ≡ Some row
        → places_of (record { group = renamed_volume old new before.group; disk_of = disk_of }) number row.1
        ≡ places_of before number row.1
    kept number row there =
        places_kept before (record { group = renamed_volume old new before.group; disk_of = disk_of }) accepted disks refl number number row
        row.1 there refl (primary_renamed old new before.group number)
