-- The volumes of a group in which a visible volume is longer, and of one with one more.
use Rattle.std.proofs.Common.{◌≡◌, ℕ, zero, suc, ◌+◌, ◌*◌, Bool, true, false, ◌||◌, cond, List, [], ◌∷◌, ◌++◌, length, map, Some}
use Rattle.std.proofs.Common.{refl, sym, ap, ◌∙◌, arith}
use Rattle.std.specs.Prelude.{nat_eq, slice_get}
use Rattle.std.specs.Cmp.Lexicographic.{pointwise}
use Rattle.std.specs.List.{range_with_len}
use Rattle.std.proofs.lemmas.Bool.{true≢false}
use Rattle.lvm_name.specs.Names.{is_among}
use Rattle.command_table.specs.Commands.{NextVersion, VolumeAdded, VolumeLonger}
use Rattle.meta_model.specs.Standing.{HasTree}
use Rattle.meta_model.specs.Tables.{names_of}
use Rattle.meta_model.specs.declared.lv.Lv.{Lv}
use Rattle.meta_print.proofs.NamesOfText.{pointwise_same}
use Rattle.volume_rules.specs.Extents.{extents_of}
use Rattle.volume_rules.specs.Rules.{IsAccepted}
use Rattle.extent_alloc.specs.declared.part.Part.{Part}
use Rattle.scan_rules.proofs.Scanning.{same_bytes_tells}
use Rattle.group_edits.proofs.GivenRules.{extents_both}
use Rattle.group_edits.proofs.LongerPlaces.{primary_longer, primary_more}
use Rattle.group_edits.specs.GivenSegments.{extents_in, segments_of}
use Rattle.group_edits.specs.LongerVolume.{last_kind, longer, longer_row, longer_volume}
use Rattle.group_edits.specs.NewVolume.{with_volume}
use Rattle.group_edits.specs.Visible.{visible_named}
use Rattle.vg_scan.specs.Versions.{Version}
use Rattle.volume_history.specs.Changing.{KindChanges, changed_named, grown_by, has_named}
use Rattle.volume_history.specs.Placed.{Place, PlacedVolume, place_of, placed_from, places_of, volumes_of}
use Rattle.line_history.proofs.KeptVolumes.{KeepsDisks, all_stand, places_kept, volumes_from}
use Rattle.line_history.proofs.NamedChanges.{Row, volumes_changed}
use Rattle.line_history.proofs.RenamedVolumes.{named_in}

-- the images of a range in two parts
map_parts : (f : ℕ → Place) (from next all first second : ℕ) → all ≡ first + second → next ≡ from + first
    → map f (range_with_len from all) ≡ map f (range_with_len from first) ++ map f (range_with_len next second)
map_parts f from next all zero second is at =
    ap (λ (n : ℕ). map f (range_with_len from n)) (omega (arith, is)) ∙ ap (λ (n : ℕ). map f (range_with_len n second)) (omega (arith, at))
map_parts f from next zero (suc first) second is at = absurd (omega (arith, is))
map_parts f from next (suc all) (suc first) second is at =
    ap (λ (l : List Place). f from ∷ l) (map_parts f (from + 1) next all first second (omega (arith, is)) (omega (arith, at)))

-- ---- a longer volume

module _ (name : List ℕ) (given : List Part) (before : Version) (disk_of : List ℕ) where
  abbrev after : Version
  after = record { group = longer_volume name given before.group; disk_of = disk_of }

  -- the places behind its own, where it is longer
  abbrev pub places_behind : ℕ → Lv → List Place
  places_behind number lv =
      map (place_of after number) (range_with_len (extents_of lv * before.group.extent_size)
      (extents_in (segments_of (last_kind lv.segments) (extents_of lv) given) * before.group.extent_size))

  module _ (accepted : IsAccepted before.group) (disks : KeepsDisks before after) where
    -- a row has the same places for its own sectors
    own_kept : (number : ℕ) (row : Row) → slice_get before.group.lvs number ≡ Some row
        → places_of after number row.1 ≡ places_of before number row.1
    own_kept number row there =
        places_kept before after accepted disks refl number number row row.1 there refl (primary_longer name given before.group number)

    -- the longer volume has more places behind its own
    places_grown : (number : ℕ) (row : Row) → slice_get before.group.lvs number ≡ Some row
        → places_of after number (longer given row.1) ≡ places_of before number row.1 ++ places_behind number row.1
    places_grown number row there =
        let size : ℕ = before.group.extent_size in
        let own : ℕ = extents_of row.1 in
        let more : ℕ = extents_in (segments_of (last_kind row.1.segments) (extents_of row.1) given) in
        let all : extents_of (longer given row.1) * size ≡ own * size + more * size =
        ap (λ (n : ℕ). n * size) (extents_both row.1.segments (segments_of (last_kind row.1.segments) (extents_of row.1) given))
        ∙ omega arith
        in
        map_parts (place_of after number) 0 (own * size) (extents_of (longer given row.1) * size) (own * size) (more * size) all
        (omega arith)
        ∙ ap (λ (l : List Place). l ++ places_behind number row.1) (own_kept number row there)

  -- so it is in the group
  pub volumes_longer : IsAccepted before.group → KeepsDisks before after → HasTree before.group → (v : ℕ × Lv)
      → visible_named before.group name ≡ Some v
      → volumes_of (Some after) ≡ changed_named name (grown_by (places_behind v.0 v.1)) (volumes_of (Some before))
  volumes_longer accepted disks tree v found =
      volumes_changed name (longer_row given) (grown_by (places_behind v.0 v.1)) before after v
      (record {
        rows = refl;
        seen = λ row. refl;
        kept = λ number row there other. own_kept accepted disks number row there;
        made = λ number row there same is.
            ap (λ (l : List Place). record { id = row.1.id; name = row.0; places = l }) (places_grown accepted disks number row there
            ∙ ap (λ (x : ℕ × Lv). places_of before number row.1 ++ places_behind x.0 x.1) is);
      }) tree found

-- ---- one more volume

-- no visible volume has a name that is free
free_from : (version : Version) (name : List ℕ) (number : ℕ) (rows : List Row) → is_among (names_of rows) name ≡ false
    → has_named name (placed_from version number rows) ≡ false
free_from version name number [] free = refl
free_from version name number (row ∷ rows) free =
    by row.1.status.visible (pointwise nat_eq row.0 name) refl (free_from version name (number + 1) rows both.1) where
      both : (pointwise nat_eq name row.0 ≡ false) × (is_among (names_of rows) name ≡ false)
      both = parts (pointwise nat_eq name row.0) (is_among (names_of rows) name) free where
        parts : (a b : Bool) → (a || b) ≡ false → (a ≡ false) × (b ≡ false)
        parts true b is = absurd (true≢false is)
        parts false b is = (refl, is)

      later : List PlacedVolume
      later = placed_from version (number + 1) rows

      volume : PlacedVolume
      volume = record { id = row.1.id; name = row.0; places = places_of version number row.1 }

      by : (seen same : Bool) → pointwise nat_eq row.0 name ≡ same → has_named name later ≡ false
          → has_named name (cond seen (volume ∷ later) later) ≡ false
      by false same is rest = rest
      by true true is rest =
          let own : row.0 ≡ name = same_bytes_tells row.0 name (is) in
          absurd (true≢false (sym (ap (pointwise nat_eq name) own ∙ pointwise_same name) ∙ both.0))
      by true false is rest = ap (λ (b : Bool). b || has_named name later) is ∙ rest

pub named_free : (version : Version) (name : List ℕ) → is_among (names_of version.group.lvs) name ≡ false
    → has_named name (volumes_of (Some version)) ≡ false
unfolding volumes_of
named_free version name free = free_from version name 0 version.group.lvs free

module _ (row : Row) (before : Version) (disk_of : List ℕ) where
  abbrev with_one : Version
  with_one = record { group = with_volume row before.group; disk_of = disk_of }

  -- the volume of the new row
  abbrev pub new_placed : PlacedVolume
  new_placed = record { id = row.1.id; name = row.0; places = places_of with_one (length before.group.lvs) row.1 }

  -- the last of these rows, which is visible
  last_placed : (number : ℕ) (rows : List Row) → row.1.status.visible ≡ true
      → placed_from with_one number (rows ++ row ∷ [])
      ≡ placed_from with_one number rows ++ record { id = row.1.id; name = row.0; places = places_of with_one (number + length rows) row.1 }
      ∷ []
  last_placed number [] visible =
      ap (λ (b : Bool). cond b (record { id = row.1.id; name = row.0; places = places_of with_one number row.1 } ∷ []) []) visible
      ∙ ap (λ (n : ℕ). record { id = row.1.id; name = row.0; places = places_of with_one n row.1 } ∷ []) (omega arith)
  last_placed number (r ∷ rows) visible =
      ap (λ (l : List PlacedVolume). cond r.1.status.visible (first ∷ l) l)
      (last_placed (number + 1) rows visible ∙ ap
      (λ (n : ℕ). placed_from with_one (number + 1) rows ++ record { id = row.1.id; name = row.0; places = places_of with_one n row.1 }
      ∷ []) (omega arith))
      ∙ by r.1.status.visible
    where
      first : PlacedVolume
      first = record { id = r.1.id; name = r.0; places = places_of with_one number r.1 }

      later : List PlacedVolume
      later = placed_from with_one (number + 1) rows

      new : PlacedVolume
      new = record { id = row.1.id; name = row.0; places = places_of with_one (number + length (r ∷ rows)) row.1 }

      by : (b : Bool) → cond b (first ∷ (later ++ new ∷ [])) (later ++ new ∷ []) ≡ cond b (first ∷ later) later ++ new ∷ []
      by true = refl
      by false = refl

  -- so it is in the group
  pub volumes_more : IsAccepted before.group → KeepsDisks before with_one → row.1.status.visible ≡ true
      → volumes_of (Some with_one) ≡ volumes_of (Some before) ++ new_placed ∷ []
  unfolding volumes_of
  volumes_more accepted disks visible =
      last_placed 0 before.group.lvs visible
      ∙ ap (λ (n : ℕ). placed_from with_one 0 before.group.lvs
      ++ record { id = row.1.id; name = row.0; places = places_of with_one n row.1 } ∷ []) (omega arith)
      ∙ ap (λ (l : List PlacedVolume). l ++ new_placed ∷ [])
      (volumes_from before with_one accepted disks refl (primary_more row before.group) 0 before.group.lvs (all_stand before.group))

-- ---- what is made of the volumes

-- a longer volume
pub extend_changes : (lv : List ℕ) (given : List Part) (before : Version) (disk_of : List ℕ)
    → IsAccepted before.group
    → KeepsDisks before (record { group = longer_volume lv given before.group; disk_of = disk_of }) → HasTree before.group
    → (v : ℕ × Lv) → visible_named before.group lv ≡ Some v
    → KindChanges (NextVersion (VolumeLonger lv)) (Some before)
    (Some (record { group = longer_volume lv given before.group; disk_of = disk_of }))
extend_changes lv given before disk_of accepted disks tree v found = (
  places_behind lv given before disk_of v.0 v.1,
  volumes_longer lv given before disk_of accepted disks tree v found,
  named_in before lv v found,
  refl,
)

-- a new volume
pub create_changes : (name : List ℕ) (lv : Lv) (before : Version) (disk_of : List ℕ) → IsAccepted before.group
    → KeepsDisks before (record { group = with_volume (name, lv) before.group; disk_of = disk_of })
    → lv.status.visible ≡ true → is_among (names_of before.group.lvs) name ≡ false
    → KindChanges (VolumeAdded name) (Some before) (Some (record { group = with_volume (name, lv) before.group; disk_of = disk_of }))
create_changes name lv before disk_of accepted disks visible free = (
  new_placed (name, lv) before disk_of,
  refl,
  volumes_more (name, lv) before disk_of accepted disks visible,
  named_free before name free,
  refl,
)
