-- The places of a volume by its key: those that the world reads and writes are those of the version, and no two are the same.
use Rattle.std.proofs.Common.{◌≡◌, ◌<◌, ℕ, zero, suc, ◌+◌, ◌==◌, Bool, true, false, ◌||◌, cond, nat_lt, List, [], ◌∷◌, length, map}
use Rattle.std.proofs.Common.{Option, Some, None, IsFalse, refl, sym, ap, subst, ◌∙◌, arith}
use Rattle.std.specs.Prelude.{find, option_map, position, slice_get, unwrap_or, IfSome}
use Rattle.std.specs.List.{position_or_len, range_with_len}
use Rattle.std.specs.Option.{option_and_then, option_map_or}
use Rattle.std.specs.Str.{bytes_eq}
use Rattle.std.proofs.lemmas.Bool.{ltb-false, ne_eqb, or_right, true≢false}
use Rattle.std.proofs.lemmas.List.Folds.{find_at}
use Rattle.std.proofs.lemmas.List.FromFn.{get_or-map-range_with_len, length-map-range_with_len}
use Rattle.std.proofs.lemmas.Option.{same_Some, slice_get-get_or, slice_get_past, slice_get_within}
use Rattle.sector_base.specs.declared.places.At.{At}
use Rattle.list_laws.proofs.Bools.{eq_to, itself, lt_false, same_text, true_lt}
use Rattle.disk_model.specs.Steps.{Image}
use Rattle.meta_model.specs.declared.group.Group.{Group}
use Rattle.meta_model.specs.declared.segment.On.TheVariants as on
use Rattle.volume_rules.specs.Rules.{IsAccepted}
use Rattle.volume_rules.specs.declared.rule.Rule.TheVariants.{Depth}
use Rattle.volume_view.specs.Copies.{sector_of}
use Rattle.volume_view.specs.InSegments.{Spot}
use Rattle.volume_view.specs.Places.{primary}
use Rattle.volume_view.proofs.CopiesApart.{IsFree, copies_apart, same_number}
use Rattle.volume_view.proofs.GoingDown.{down_has_copy}
use Rattle.volume_view.proofs.PrimariesStand.{primary_stands}
use Rattle.volume_view.specs.InExtents.{IsInExtents}
use Rattle.vg_scan.specs.Versions.{Version}
use Rattle.volume_view.proofs.InExtents.{primary_in_extents}
use Rattle.line_table.specs.Machine.{name_of}
use Rattle.seg_place.specs.Sectors.{sectors_of}
use Rattle.volume_history.specs.Changing.{HaveOwnNames, has_named}
use Rattle.volume_history.specs.Placed.{Place, PlacedVolume, no_place, place_of as placed_at, placed_from, places_of, volumes_of}
use Rattle.volume_history.specs.Placed.{on_disk as disk_place}
use Rattle.volume_history.specs.Replay.{opening_volumes, places_named}
use Rattle.world_acts.specs.declared.volumes.VolumeRow.{VolumeRow}
use Rattle.world_acts.specs.declared.volumes.Volumes.{Volumes}
use Rattle.world_acts.specs.Volumes.{AreLaidOut, has_sector, lv_of, on_disk, place_of, rows_at_opening, visible_numbers, visible_rows}
use Rattle.world_history.proofs.Contents.Rows.{Row, StandFrom, all_stand, first_stands, rest_stand, sectors_are}
use Rattle.world_history.specs.Shown.{AreOfVersion, places_keyed, shown_state}

-- ---- by name

-- the name of the volume with a key: of a later one, and of the first
name_later : (image : Image) (first : ℕ) (v : PlacedVolume) (vs : List PlacedVolume) (k : ℕ)
    → name_of (opening_volumes image first (v ∷ vs)) (first + suc k) ≡ name_of (opening_volumes image (first + 1) vs) (first + 1 + k)
name_later image first v vs k =
    let next : first + suc k ≡ first + 1 + k = omega arith in
    ap (λ (b : Bool). cond b v.name (name_of (opening_volumes image (first + 1) vs) (first + suc k)))
    (ne_eqb first (first + suc k) (λ e. omega (arith, e)))
    ∙ ap (name_of (opening_volumes image (first + 1) vs)) next

name_first : (image : Image) (first : ℕ) (v : PlacedVolume) (vs : List PlacedVolume)
    → name_of (opening_volumes image first (v ∷ vs)) (first + 0) ≡ v.name
name_first image first v vs =
    ap (λ (b : Bool). cond b v.name (name_of (opening_volumes image (first + 1) vs) (first + 0))) (eq_to first (first + 0) (omega arith))

-- the volume with a key is one that has its name
is_named : (image : Image) (first : ℕ) (vs : List PlacedVolume) (k : ℕ) → k < length vs
    → has_named (name_of (opening_volumes image first vs) (first + k)) vs ≡ true
is_named image first [] k lt = absurd (omega (arith, lt))
is_named image first (v ∷ vs) zero lt =
    ap (λ (name : List ℕ). has_named name (v ∷ vs)) (name_first image first v vs)
    ∙ ap (λ (b : Bool). b || has_named v.name vs) (itself v.name)
is_named image first (v ∷ vs) (suc k) lt =
    let name : List ℕ = name_of (opening_volumes image (first + 1) vs) (first + 1 + k) in
    ap (λ (n : List ℕ). has_named n (v ∷ vs)) (name_later image first v vs k)
    ∙ or_right (bytes_eq v.name name) (has_named name vs) (is_named image (first + 1) vs k (omega (arith, lt)))

-- a name that a later volume has isn't the first one's
other_name : (v : PlacedVolume) (vs : List PlacedVolume) (name : List ℕ) → has_named v.name vs ≡ false → has_named name vs ≡ true
    → bytes_eq v.name name ≡ false
other_name v vs name none has = by (bytes_eq v.name name) refl where
  by : (b : Bool) → bytes_eq v.name name ≡ b → b ≡ false
  by true is = absurd (true≢false (sym has ∙ ap (λ (n : List ℕ). has_named n vs) (sym (same_text v.name name is)) ∙ none))
  by false is = refl

places_from : (image : Image) (first : ℕ) (vs : List PlacedVolume) → HaveOwnNames vs → (k : ℕ) → k < length vs
    → places_named vs (name_of (opening_volumes image first vs) (first + k)) ≡ places_keyed vs k
places_from image first [] names k lt = absurd (omega (arith, lt))
places_from image first (v ∷ vs) names zero lt =
    ap (places_named (v ∷ vs)) (name_first image first v vs)
    ∙ ap (λ (b : Bool). cond b v.places (places_named vs v.name)) (itself v.name)
places_from image first (v ∷ vs) names (suc k) lt =
    let name : List ℕ = name_of (opening_volumes image (first + 1) vs) (first + 1 + k) in
    let within : k < length vs = omega (arith, lt) in
    ap (places_named (v ∷ vs)) (name_later image first v vs k)
    ∙ ap (λ (b : Bool). cond b v.places (places_named vs name))
    (other_name v vs name names.0 (is_named image (first + 1) vs k within))
    ∙ places_from image (first + 1) vs names.1 k within

-- the places of the volume of a key's name are those of the key, where no two volumes have one name
pub places_of_key : (version : Option Version) (image : Image) → HaveOwnNames (volumes_of version) → (key : ℕ)
    → key < length (volumes_of version)
    → places_named (volumes_of version) (name_of (shown_state version image).volumes key) ≡ places_keyed (volumes_of version) key
places_of_key version image names key lt =
    subst (λ (k : ℕ). places_named (volumes_of version) (name_of (opening_volumes image 0 (volumes_of version)) k)
    ≡ places_keyed (volumes_of version) key) (let e : 0 + key ≡ key = omega arith in e)
    (places_from image 0 (volumes_of version) names key lt)

-- ---- by number

-- the number of the row with a key
abbrev number_in : List VolumeRow → ℕ → Option ℕ
number_in rows key =
    option_and_then (λ at. option_map (λ (r : VolumeRow). r.lv) (slice_get rows at)) (position (λ (r : VolumeRow). r.key == key) rows)

abbrev number_found : List VolumeRow → ℕ → Option ℕ
number_found rows key = option_map (λ (r : VolumeRow). r.lv) (find (λ (r : VolumeRow). r.key == key) rows)

by_find : (rows : List VolumeRow) (key : ℕ) → number_in rows key ≡ number_found rows key
by_find rows key = by (nat_lt at (length rows)) refl where
  at : ℕ
  at = position_or_len (λ (r : VolumeRow). r.key == key) rows

  by : (b : Bool) → nat_lt at (length rows) ≡ b
      → option_and_then (λ n. option_map (λ (r : VolumeRow). r.lv) (slice_get rows n)) (cond b (Some at) None) ≡ number_found rows key
  by true is = sym (ap (option_map (λ (r : VolumeRow). r.lv)) (find_at (λ (r : VolumeRow). r.key == key) rows))
  by false is =
      sym (ap (option_map (λ (r : VolumeRow). r.lv))
      (find_at (λ (r : VolumeRow). r.key == key) rows ∙ slice_get_past rows at (ltb-false at (length rows) is)))

numbers_found : (key number : ℕ) (rows : List Row) (k : ℕ)
    → number_found (visible_rows key number rows) (key + k) ≡ slice_get (visible_numbers number rows) k
numbers_found key number [] k = refl
numbers_found key number (row ∷ rows) k =
    by row.1.status.visible k (numbers_found (key + 1) (number + 1) rows) (numbers_found key (number + 1) rows) where
      own : VolumeRow
      own = record { key = key; lv = number }

      by : (seen : Bool) (k : ℕ)
          → ((j : ℕ) → number_found (visible_rows (key + 1) (number + 1) rows) (key + 1 + j)
          ≡ slice_get (visible_numbers (number + 1) rows) j)
          → ((j : ℕ) → number_found (visible_rows key (number + 1) rows) (key + j) ≡ slice_get (visible_numbers (number + 1) rows) j)
          → number_found (cond seen (own ∷ visible_rows (key + 1) (number + 1) rows) (visible_rows key (number + 1) rows)) (key + k)
          ≡ slice_get (cond seen (number ∷ visible_numbers (number + 1) rows) (visible_numbers (number + 1) rows)) k
      by true zero shown hidden =
          ap (λ (b : Bool). option_map (λ (r : VolumeRow). r.lv) (cond b (Some own)
          (find (λ (r : VolumeRow). r.key == key + 0) (visible_rows (key + 1) (number + 1) rows)))) (eq_to key (key + 0) (omega arith))
      by true (suc k) shown hidden =
          let next : key + suc k ≡ key + 1 + k = omega arith in
          ap (λ (b : Bool). option_map (λ (r : VolumeRow). r.lv) (cond b (Some own)
          (find (λ (r : VolumeRow). r.key == key + suc k) (visible_rows (key + 1) (number + 1) rows))))
          (ne_eqb key (key + suc k) (λ e. omega (arith, e)))
          ∙ ap (number_found (visible_rows (key + 1) (number + 1) rows)) next ∙ shown k
      by false k shown hidden = hidden k

-- the places of the volume with this number
abbrev places_at : Version → ℕ → List Place
places_at version lv = map (placed_at version lv) (range_with_len 0 (sectors_of version.group lv))

numbered_from : (version : Version) (number : ℕ) (rows : List Row) → StandFrom version.group number rows → (key : ℕ)
    → places_keyed (placed_from version number rows) key
    ≡ option_map_or (places_at version) (slice_get (visible_numbers number rows) key) []
numbered_from version number [] stand key = refl
numbered_from version number (row ∷ rows) stand key =
    by row.1.status.visible key (numbered_from version (number + 1) rows (rest_stand version.group number row rows stand)) where
      placed : PlacedVolume
      placed = record { id = row.1.id; name = row.0; places = places_of version number row.1 }

      by : (seen : Bool) (k : ℕ)
          → ((j : ℕ) → places_keyed (placed_from version (number + 1) rows) j
          ≡ option_map_or (places_at version) (slice_get (visible_numbers (number + 1) rows) j) [])
          → places_keyed (cond seen (placed ∷ placed_from version (number + 1) rows) (placed_from version (number + 1) rows)) k
          ≡ option_map_or (places_at version)
          (slice_get (cond seen (number ∷ visible_numbers (number + 1) rows) (visible_numbers (number + 1) rows)) k) []
      by true zero rest =
          ap (λ (n : ℕ). map (placed_at version number) (range_with_len 0 n))
          (sym (sectors_are version.group number row (first_stands version.group number row rows stand)))
      by true (suc k) rest = rest k
      by false k rest = rest k

-- the number of the volume with this key
abbrev number_keyed : Version → ℕ → Option ℕ
number_keyed version key = slice_get (visible_numbers 0 version.group.lvs) key

numbered : (version : Version) (key : ℕ)
    → places_keyed (volumes_of (Some version)) key ≡ option_map_or (places_at version) (number_keyed version key) []
unfolding volumes_of
numbered version key = numbered_from version 0 version.group.lvs (all_stand version.group) key

none_keyed : (key : ℕ) → places_keyed (volumes_of None) key ≡ []
unfolding volumes_of
none_keyed key = refl

lv_is : (volumes : Volumes) (version : Version) → AreOfVersion volumes (Some version) → (key : ℕ)
    → lv_of volumes key ≡ number_keyed version key
lv_is volumes version of key =
    by_find volumes.rows.items key
    ∙ ap (λ (l : List VolumeRow). number_found l key) (of.rows ∙ ap rows_at_opening of.group)
    ∙ subst (λ (k : ℕ). number_found (visible_rows 0 0 version.group.lvs) k ≡ number_keyed version key)
    (let e : 0 + key ≡ key = omega arith in e) (numbers_found 0 0 version.group.lvs key)

-- a volume of a key has a sector where there is a place for it
pub has_keyed : (volumes : Volumes) (sizes : List ℕ) (version : Option Version) → AreLaidOut volumes sizes → AreOfVersion volumes version
    → (key x : ℕ) → has_sector volumes key x ≡ nat_lt x (length (places_keyed (volumes_of version) key))
has_keyed volumes sizes None laid of key x =
    ap (λ (o : Option Group). option_map_or (λ (g : Group). option_map_or (λ lv. nat_lt x (sectors_of g lv)) (lv_of volumes key) false) o
    false) of.group
    ∙ sym (lt_false x 0 (omega arith)) ∙ sym (ap (λ (l : List Place). nat_lt x (length l)) (none_keyed key))
has_keyed volumes sizes (Some version) laid of key x =
    ap (λ (o : Option Group). option_map_or (λ (g : Group). option_map_or (λ lv. nat_lt x (sectors_of g lv)) (lv_of volumes key) false) o
    false) of.group
    ∙ ap (λ (o : Option ℕ). option_map_or (λ lv. nat_lt x (sectors_of version.group lv)) o false) (lv_is volumes version of key)
    ∙ by (number_keyed version key) ∙ sym (ap (λ (l : List Place). nat_lt x (length l)) (numbered version key))
  where
    by : (o : Option ℕ)
        → option_map_or (λ lv. nat_lt x (sectors_of version.group lv)) o false ≡ nat_lt x (length (option_map_or (places_at version) o []))
    by None = sym (lt_false x 0 (omega arith))
    by (Some lv) = ap (nat_lt x) (sym (length-map-range_with_len (placed_at version lv) 0 (sectors_of version.group lv)))

-- the place of a sector among those of its volume
place_got : (version : Version) (lv x : ℕ) → x < sectors_of version.group lv
    → slice_get (places_at version lv) x ≡ Some (placed_at version lv x)
place_got version lv x lt =
    slice_get-get_or (places_at version lv) x no_place
    (omega (arith, lt, length-map-range_with_len (placed_at version lv) 0 (sectors_of version.group lv)))
    ∙ ap Some (get_or-map-range_with_len (placed_at version lv) 0 (sectors_of version.group lv) x x no_place lt (omega arith))

-- which is the primary one, on its disk
primary_place : (version : Version) (lv x : ℕ) (at : At) → primary version.group lv x ≡ Some at
    → placed_at version lv x ≡ disk_place version.disk_of at
unfolding placed_at
primary_place version lv x at is = ap (λ (o : Option At). unwrap_or (option_map (disk_place version.disk_of) o) no_place) is

-- the place that the world gives a sector is that of the version
pub place_keyed : (volumes : Volumes) (sizes : List ℕ) (version : Option Version) → AreLaidOut volumes sizes → AreOfVersion volumes version
    → (key x : ℕ) (at : At) → has_sector volumes key x ≡ true → place_of volumes key x ≡ Some at
    → slice_get (places_keyed (volumes_of version) key) x ≡ Some (record { disk = at.pv; sector = at.sector })
place_keyed volumes sizes None laid of key x at has is =
    absurd (no (sym (ap (λ (o : Option Group).
    option_and_then (λ (g : Group). option_and_then (λ lv. option_map (on_disk volumes) (primary g lv x)) (lv_of volumes key)) o) of.group)
    ∙ is))
  where
    no : None ≡ Some at → ⊥
    no e = cc
place_keyed volumes sizes (Some version) laid of key x at has is =
    ap (λ (l : List Place). slice_get l x) (numbered version key)
    ∙ by (number_keyed version key) (true_lt x (length (option_map_or (places_at version) (number_keyed version key) []))
    (sym (ap (λ (l : List Place). nat_lt x (length l)) (numbered version key)) ∙ sym (has_keyed volumes sizes (Some version) laid of key x)
    ∙ has))
    (sym (ap (λ (o : Option Group).
    option_and_then (λ (g : Group). option_and_then (λ lv. option_map (on_disk volumes) (primary g lv x)) (lv_of volumes key)) o) of.group
    ∙ ap (option_and_then (λ lv. option_map (on_disk volumes) (primary version.group lv x))) (lv_is volumes version of key)) ∙ is)
  where
    on : (lv : ℕ) (o : Option At) → primary version.group lv x ≡ o → option_map (on_disk volumes) o ≡ Some at
        → placed_at version lv x ≡ record { disk = at.pv; sector = at.sector }
    on lv None found made = absurd cc
    on lv (Some a) found made =
        primary_place version lv x a found ∙ ap (λ (l : List ℕ). disk_place l a) of.disks
        ∙ ap (λ (b : At). record { disk = b.pv; sector = b.sector }) (same_Some (on_disk volumes a) at made)

    by : (o : Option ℕ) → x < length (option_map_or (places_at version) o [])
        → option_and_then (λ lv. option_map (on_disk volumes) (primary version.group lv x)) o ≡ Some at
        → slice_get (option_map_or (places_at version) o []) x ≡ Some (record { disk = at.pv; sector = at.sector })
    by None lt made = absurd (omega (arith, lt))
    by (Some lv) lt made =
        let within : x < sectors_of version.group lv =
        omega (arith, lt, length-map-range_with_len (placed_at version lv) 0 (sectors_of version.group lv)) in
        place_got version lv x within ∙ ap Some (on lv (primary version.group lv x) refl made)

-- ---- places differ

-- the volume with this number is visible
record IsSeenAt (number : ℕ) (rows : List Row) (lv : ℕ) : Type 0 where
  pub k : ℕ
  pub row : Row
  pub place : lv ≡ number + k
  pub there : slice_get rows k ≡ Some row
  pub visible : row.1.status.visible ≡ true

seen_from : (number : ℕ) (rows : List Row) (key lv : ℕ) → slice_get (visible_numbers number rows) key ≡ Some lv → IsSeenAt number rows lv
seen_from number [] key lv is = absurd cc
seen_from number (row ∷ rows) key lv is = by row.1.status.visible refl key is (seen_from (number + 1) rows) where
  later : IsSeenAt (number + 1) rows lv → IsSeenAt number (row ∷ rows) lv
  later at = record { k = suc at.k; row = at.row; place = omega (arith, at.place); there = at.there; visible = at.visible }

  by : (seen : Bool) → row.1.status.visible ≡ seen → (key : ℕ)
      → slice_get (cond seen (number ∷ visible_numbers (number + 1) rows) (visible_numbers (number + 1) rows)) key ≡ Some lv
      → ((key lv : ℕ) → slice_get (visible_numbers (number + 1) rows) key ≡ Some lv → IsSeenAt (number + 1) rows lv)
      → IsSeenAt number (row ∷ rows) lv
  by true shown zero is rest =
      let e : number ≡ lv = same_Some number lv is in
      record { k = 0; row = row; place = omega (arith, e); there = refl; visible = shown }
  by true shown (suc key) is rest = later (rest key lv is)
  by false hidden key is rest = later (rest key lv is)

-- a number stands once
one_key : (number : ℕ) (rows : List Row) (key other lv : ℕ) → slice_get (visible_numbers number rows) key ≡ Some lv
    → slice_get (visible_numbers number rows) other ≡ Some lv → key ≡ other
one_key number [] key other lv is there = absurd cc
one_key number (row ∷ rows) key other lv is there =
    by row.1.status.visible key other is there (λ k j a b. one_key (number + 1) rows k j lv a b) where
      past : (k : ℕ) → slice_get (visible_numbers (number + 1) rows) k ≡ Some lv → number ≡ lv → ⊥
      past k later first =
          let at : IsSeenAt (number + 1) rows lv = seen_from (number + 1) rows k lv later in
          let place : lv ≡ number + 1 + at.k = at.place in omega (arith, place, first)

      by : (seen : Bool) (k j : ℕ)
          → slice_get (cond seen (number ∷ visible_numbers (number + 1) rows) (visible_numbers (number + 1) rows)) k ≡ Some lv
          → slice_get (cond seen (number ∷ visible_numbers (number + 1) rows) (visible_numbers (number + 1) rows)) j ≡ Some lv
          → ((a b : ℕ) → slice_get (visible_numbers (number + 1) rows) a ≡ Some lv
          → slice_get (visible_numbers (number + 1) rows) b ≡ Some lv → a ≡ b)
          → k ≡ j
      by true zero zero a b rest = refl
      by true zero (suc j) a b rest = absurd (past j b (same_Some number lv a))
      by true (suc k) zero a b rest = absurd (past k a (same_Some number lv b))
      by true (suc k) (suc j) a b rest = ap suc (rest k j a b)
      by false k j a b rest = rest k j a b

-- the sectors of a visible volume lie in no leg
seen_is_free : (group : Group) (lv sector : ℕ) (row : Row) → IsAccepted group → slice_get group.lvs lv ≡ Some row
    → row.1.status.visible ≡ true → IsFree group (sector_of lv sector)
seen_is_free group lv sector row accepted is visible used =
    let run = used.0 in
    let hidden : IsFalse row.1.status.visible = (accepted Depth).hidden run.lv lv row.1 (run, used.1, refl, used.2.0) (row.0, is) in
    no (subst IsFalse visible hidden)
  where
    no : IsFalse true → ⊥
    no is = grind arith

-- and no two have one primary place
primaries_apart : (group : Group) (lv other sector other_sector : ℕ) (at : At) → IsAccepted group → IsFree group (sector_of lv sector)
    → IsFree group (sector_of other other_sector) → primary group lv sector ≡ Some at → primary group other other_sector ≡ Some at
    → sector_of lv sector ≡ sector_of other other_sector
unfolding primary
primaries_apart group lv other sector other_sector at accepted free other_free here there =
    let a = down_has_copy group 5 (on.Lv lv) sector at here in
    let b = down_has_copy group 5 (on.Lv other) other_sector at there in
    (copies_apart group (sector_of lv sector) (sector_of other other_sector) a.0 b.0 at accepted free other_free a.1 b.1).0

-- a place of a volume: the sector of a physical volume that stands there
record IsPlaceOf (version : Version) (key x : ℕ) (p : Place) : Type 0 where
  pub lv : ℕ
  pub number : number_keyed version key ≡ Some lv
  pub free : IsFree version.group (sector_of lv x)
  pub at : At
  pub stands : primary version.group lv x ≡ Some at
  pub place : disk_place version.disk_of at ≡ p
  pub pv : at.pv < length version.group.pvs

place_stands : (version : Version) → IsAccepted version.group → (key x : ℕ) (p : Place)
    → slice_get (places_keyed (volumes_of (Some version)) key) x ≡ Some p → IsPlaceOf version key x p
place_stands version accepted key x p is =
    by (number_keyed version key) refl (sym (ap (λ (l : List Place). slice_get l x) (numbered version key)) ∙ is) where
      by : (o : Option ℕ) → number_keyed version key ≡ o → slice_get (option_map_or (places_at version) o []) x ≡ Some p
          → IsPlaceOf version key x p
      by None number got = absurd cc
      by (Some lv) number got =
          let within : x < sectors_of version.group lv =
          omega (
            arith,
            slice_get_within (places_at version lv) x p got,
            length-map-range_with_len (placed_at version lv) 0 (sectors_of version.group lv),
          ) in
          let seen : IsSeenAt 0 version.group.lvs lv = seen_from 0 version.group.lvs key lv number in
          let there : slice_get version.group.lvs lv ≡ Some seen.row =
          subst (λ (n : ℕ). slice_get version.group.lvs n ≡ Some seen.row) (let e = seen.place in omega (arith, e)) seen.there in
          let stands = primary_stands version.group lv x seen.row accepted there
          (subst (λ (n : ℕ). x < n) (sectors_are version.group lv seen.row there) within) in
          let inside : IsInExtents version.group stands.0 = primary_in_extents version.group accepted lv x stands.0 stands.1 in
          record {
            lv = lv;
            number = number;
            free = seen_is_free version.group lv x seen.row accepted there seen.visible;
            at = stands.0;
            stands = stands.1;
            place =
                sym (primary_place version lv x stands.0 stands.1)
                ∙ same_Some (placed_at version lv x) p (sym (place_got version lv x within) ∙ got);
            pv = slice_get_within version.group.pvs stands.0.pv inside.pv inside.is_pv;
          }

-- no two sectors have one place
pub places_differ : (volumes : Volumes) (sizes : List ℕ) (version : Option Version) → AreLaidOut volumes sizes
    → AreOfVersion volumes version → (key x other y : ℕ) (p : Place) → slice_get (places_keyed (volumes_of version) key) x ≡ Some p
    → slice_get (places_keyed (volumes_of version) other) y ≡ Some p
    → (key ≡ other) × (x ≡ y)
places_differ volumes sizes None laid of key x other y p is there =
    absurd (no (sym (ap (λ (l : List Place). slice_get l x) (none_keyed key)) ∙ is)) where
      no : None ≡ Some p → ⊥
      no e = cc
places_differ volumes sizes (Some version) laid of key x other y p is there =
    let accepted : IsAccepted version.group = subst (λ (o : Option Group). IfSome o IsAccepted) of.group laid.accepted in
    let a : IsPlaceOf version key x p = place_stands version accepted key x p is in
    let b : IsPlaceOf version other y p = place_stands version accepted other y p there in
    let same : disk_place version.disk_of a.at ≡ disk_place version.disk_of b.at = a.place ∙ sym b.place in
    let pv : a.at.pv ≡ b.at.pv = of.differ a.at.pv b.at.pv a.pv b.pv (ap (λ (q : Place). q.disk) same) in
    let sector : a.at.sector ≡ b.at.sector = ap (λ (q : Place). q.sector) same in
    let at : a.at ≡ b.at = λ i. record { pv = pv i; sector = sector i } in
    let spot : sector_of a.lv x ≡ sector_of b.lv y =
    primaries_apart version.group a.lv b.lv x y b.at accepted a.free b.free (a.stands ∙ ap Some at) b.stands in
    let lv : a.lv ≡ b.lv = same_number a.lv b.lv (ap (λ (s : Spot). s.on) spot) in
    (one_key 0 version.group.lvs key other b.lv (a.number ∙ ap Some lv) b.number, ap (λ (s : Spot). s.sector) spot)
