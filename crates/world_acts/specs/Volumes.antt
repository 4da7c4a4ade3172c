-- Where the sectors of the volumes stand.
use Rattle.std.specs.Prelude.{◌≡◌, ◌≤◌, ◌<◌, AllPairs, ℕ, ◌+◌, ◌==◌, nat_lt, Bool, true, false, if◌then◌else◌, IfSome, List, [], ◌∷◌}
use Rattle.std.specs.Prelude.{length, map, Option, None, Some, option_map, position, slice_get, slice_index_or}
use Rattle.std.specs.Option.{option_and_then, option_map_or}
use Rattle.sector_base.specs.declared.places.At.{At}
use Rattle.sector_base.specs.declared.places.Piece.{Piece}
use Rattle.sector_base.specs.declared.spans.Span.{Span}
use Rattle.meta_model.specs.declared.group.Group.{Group}
use Rattle.meta_model.specs.declared.lv.Lv.{Lv}
use Rattle.volume_rules.specs.Rules.{IsAccepted}
use Rattle.volume_view.specs.Places.{primary}
use Rattle.seg_place.specs.Sectors.{sectors_of}
use Rattle.world_acts.specs.declared.volumes.VolumeRow.{VolumeRow}
use Rattle.world_acts.specs.declared.volumes.Volumes.{Volumes}

-- the number in the text of the volume with this key
abbrev pub lv_of : Volumes → ℕ → Option ℕ
lv_of volumes key =
    option_and_then (λ at. option_map (λ (r : VolumeRow). r.lv) (slice_get volumes.rows.items at))
    (position (λ (r : VolumeRow). r.key == key) volumes.rows.items)

-- the visible volumes among these, the first of which has this number in the text, with keys from this one on
abbrev pub visible_rows : ℕ → ℕ → List (List ℕ × Lv) → List VolumeRow
visible_rows key number [] = []
visible_rows key number (row ∷ rows) =
    if row.1.status.visible
    then record { key = key; lv = number } ∷ visible_rows (key + 1) (number + 1) rows
    else visible_rows key (number + 1) rows

-- their numbers
abbrev pub visible_numbers : ℕ → List (List ℕ × Lv) → List ℕ
visible_numbers number [] = []
visible_numbers number (row ∷ rows) =
    if row.1.status.visible then number ∷ visible_numbers (number + 1) rows else visible_numbers (number + 1) rows

-- the same of a group, where there is one
abbrev pub rows_at_opening : Option Group → List VolumeRow
rows_at_opening group = option_map_or (λ (g : Group). visible_rows 0 0 g.lvs) group []

abbrev pub numbers_of : Option Group → List ℕ
numbers_of group = option_map_or (λ (g : Group). visible_numbers 0 g.lvs) group []

-- whether the volume with this key has the sector
abbrev pub has_sector : Volumes → ℕ → ℕ → Bool
has_sector volumes key x =
    option_map_or (λ (group : Group). option_map_or (λ lv. nat_lt x (sectors_of group lv)) (lv_of volumes key) false) volumes.group false

-- the place on its disk of a sector of a physical volume
abbrev pub on_disk : Volumes → At → At
on_disk volumes at = record { pv = slice_index_or volumes.disk_of at.pv 0; sector = at.sector }

-- where the sector of the volume with this key is read and written
abbrev pub place_of : Volumes → ℕ → ℕ → Option At
place_of volumes key x =
    option_and_then (λ (group : Group). option_and_then (λ lv. option_map (on_disk volumes) (primary group lv x)) (lv_of volumes key))
    volumes.group

-- the piece has sectors, and they stand side by side on one disk of these sizes, from this place on
pub record StandsAt (volumes : Volumes) (sizes : List ℕ) (piece : Piece) (at : At) : Type 0 where
  pub some : 0 < piece.count
  pub inside : has_sector volumes piece.volume piece.first ≡ true
  pub each :
      (k : ℕ) → k < piece.count
      → place_of volumes piece.volume (piece.first + k) ≡ Some (record { pv = at.pv; sector = at.sector + k })
  pub disk : at.pv < length sizes
  pub within : at.sector + piece.count ≤ slice_index_or sizes at.pv 0

-- it does so somewhere
abbrev pub IsPlaced : Volumes → List ℕ → Piece → Type 0
IsPlaced volumes sizes piece = (at : At) × StandsAt volumes sizes piece at

-- so many sectors, from this place on
abbrev pub span_at : ℕ → Option At → Span
span_at count None = record { pv = 0; first = 0; count = 0 }
span_at count (Some at) = record { pv = at.pv; first = at.sector; count = count }

-- the sectors of the piece, from the place of its first one on
abbrev pub span_of : Volumes → Piece → Span
span_of volumes piece = span_at piece.count (place_of volumes piece.volume piece.first)

-- the volumes are the visible ones of an accepted group, in the order of their keys and of its text, and each sector of one has its
-- place on a disk of these sizes
pub record AreLaidOut (volumes : Volumes) (sizes : List ℕ) : Type 0 where
  pub accepted : IfSome volumes.group IsAccepted
  pub disks : IfSome volumes.group (λ (g : Group). length g.pvs ≤ length volumes.disk_of)
  pub listed : map (λ (r : VolumeRow). r.lv) volumes.rows.items ≡ numbers_of volumes.group
  pub sorted : AllPairs (λ (r s : VolumeRow). (r.key < s.key) × (r.lv < s.lv)) volumes.rows.items
  pub placed :
      (key x : ℕ) (at : At) → place_of volumes key x ≡ Some at
      → (at.pv < length sizes) × (at.sector < slice_index_or sizes at.pv 0)
