-- In every image that a crash may leave a scan finds the version of the start.
use Rattle.std.proofs.Common.{◌≡◌, ◌⊎◌, ℕ, false, List, [], length, Option, None, Some, IfSome, inl, inr, ⊎_elim, slice_get, refl}
use Rattle.std.proofs.Common.{sym, subst, ◌∙◌}
use Rattle.std.specs.Prelude.{option_map}
use Rattle.disk_model.specs.Steps.{Image, Record}
use Rattle.meta_model.specs.declared.group.Group.{Group}
use Rattle.scan_rules.specs.Decision.{first_misplaced}
use Rattle.scan_rules.specs.Found.{missing_of}
use Rattle.volume_rules.specs.Rules.{IsAccepted}
use Rattle.vg_found.specs.Disks.{disks_of, shapes}
use Rattle.vg_found.specs.Shape.{HasShape}
use Rattle.vg_found.specs.declared.disk.Disk.{Disk}
use Rattle.vg_found.specs.declared.found.Found.{Found}
use Rattle.vg_scan.specs.Scans.{IsScanOf}
use Rattle.vg_scan.specs.Versions.{Version}
use Rattle.image_scans.proofs.CommitScans.{none_unread}
use Rattle.image_scans.proofs.Placed.{IsPlaceOn, place_beside}
use Rattle.volume_history.specs.Chronicles.{ChronicleEntry, Origin, in_force, left_out}
use Rattle.volume_history.specs.Parts.{ScansPart}
use Rattle.volume_history.specs.Placed.{Place, volumes_of}
use Rattle.world_history.specs.Contents.{origin_with}
use Rattle.world_history.specs.Shown.{places_keyed}
use Rattle.world_tracks.specs.Moments.{BesideStays, HasBase}
use Rattle.world_tracks.proofs.AtPlaces.{IsAtPlace, at_or_beside}
use Rattle.world_tracks.proofs.Primaries.{IsPrimaryAt, place_is_primary}

-- a scan of an image that differs from the base at places alone finds the same
abbrev pub ScanKept : Type 0
ScanKept =
    (base image : Image) (sizes : List ℕ) (found : Found) → HasShape found
    → ((pv sector : ℕ) → (image pv sector ≡ base pv sector) ⊎ IsPlaceOn found.disks pv sector) → IsScanOf base sizes found
    → IsScanOf image sizes found

-- without a group there is no place
none_there : (key x : ℕ) (p : Place) → slice_get (places_keyed (volumes_of None) key) x ≡ Some p → ⊥
unfolding volumes_of
none_there key x p got = cc

abbrev versioned : List Disk → Group → Version
versioned disks group = record { group = group; disk_of = disks_of group disks }

module _ (o : Origin) (base : Image) (h : HasBase o base) where
  -- a place of the version is one on its disk
  place_on : (g : Option Group) → h.found.group ≡ g → (key x : ℕ) (p : Place)
      → slice_get (places_keyed (volumes_of (option_map (versioned h.found.disks) g)) key) x ≡ Some p
      → IsPlaceOn h.found.disks p.disk p.sector
  place_on None is key x p got = absurd (none_there key x p got)
  place_on (Some group) is key x p got =
      let accepted : IsAccepted group = subst (λ (g : Option Group). IfSome g IsAccepted) is h.accepted in
      let placed : first_misplaced group (shapes h.found.disks) ≡ None =
      subst (λ (g : Option Group). IfSome g (λ k. first_misplaced k (shapes h.found.disks) ≡ None)) is h.shape.placed in
      let there : missing_of (shapes h.found.disks) group.pvs ≡ [] =
      sym (subst (λ (g : Option Group). IfSome g (λ k. h.found.missing ≡ missing_of (shapes h.found.disks) k.pvs)) is h.shape.missing)
      ∙ h.whole.there in
      let pr : IsPrimaryAt (versioned h.found.disks group) p = place_is_primary (versioned h.found.disks group) accepted key x p got in
      subst (λ (q : Place). IsPlaceOn h.found.disks q.disk q.sector) (sym pr.place)
      (place_beside group h.found.disks accepted placed there pr.lv pr.sector pr.at pr.is)

  on_place : (place : Place) → IsAtPlace (volumes_of o.version) place → IsPlaceOn h.found.disks place.disk place.sector
  on_place place a =
      place_on h.found.group refl a.key a.x place
      (subst (λ (v : Option Version). slice_get (places_keyed (volumes_of v) a.key) a.x ≡ Some place) (sym h.version) a.there)

  -- so scans find the version in every image, where it is in force and nothing is left out
  pub scans_find : ScanKept → (told : Record) (es : List ChronicleEntry) → BesideStays o.version base told
      → in_force (origin_with o told) es ≡ o.version
      → ((pv : ℕ) → left_out (origin_with o told) es (length told.steps) pv ≡ false) → ScansPart (origin_with o told) es
  scans_find keeps told es beside force out image is = inl (record {
    found = h.found;
    scan = keeps base image o.sizes h.found h.shape same h.scan;
    left = λ pv within. none_unread h.found h.whole pv ∙ sym (out pv);
    whole = h.whole.there;
    version_is = h.version ∙ sym force;
  }) where
    same : (pv sector : ℕ) → (image pv sector ≡ base pv sector) ⊎ IsPlaceOn h.found.disks pv sector
    same pv sector =
        ⊎_elim (λ at. inr (on_place (record { disk = pv; sector = sector }) at))
        (λ other. inl ((beside pv sector other).each (is pv sector).0 (image pv sector) (is pv sector).1))
        (at_or_beside (volumes_of o.version) (record { disk = pv; sector = sector }))
