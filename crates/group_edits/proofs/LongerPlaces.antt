-- A group with a longer logical volume, or with one more, keeps each primary place.
use Rattle.std.proofs.Common.{◌≡◌, ℕ, ◌+◌, Bool, true, false, cond, List, [], ◌∷◌, ◌++◌, Some, refl, sym, ap, ◌∙◌}
use Rattle.std.specs.Str.{bytes_eq}
use Rattle.sector_base.specs.declared.places.At.{At}
use Rattle.meta_model.specs.declared.group.Group.{Group}
use Rattle.meta_model.specs.declared.segment.Segment.{Segment}
use Rattle.extent_alloc.specs.declared.part.Part.{Part}
use Rattle.volume_rules.specs.Extents.{extents_of}
use Rattle.volume_view.specs.InSegments.{has_sector, segment_from}
use Rattle.volume_view.specs.Places.{primary}
use Rattle.group_edits.proofs.Edits.{Row}
use Rattle.list_laws.proofs.Inserted.{slice_get-pushed}
use Rattle.group_edits.proofs.KeptPlaces.{FindsIn, finds_same, primary_same}
use Rattle.group_edits.proofs.Renumbered.{same_on, segment_is_same}
use Rattle.group_edits.proofs.Selections.{map_at}
use Rattle.group_edits.specs.GivenSegments.{segments_of}
use Rattle.group_edits.specs.LongerVolume.{last_kind, longer_row, longer_volume}
use Rattle.group_edits.specs.NewVolume.{with_volume}
use Rattle.group_edits.specs.NextVersion.{changed_if}
use Rattle.group_edits.specs.Renumbered.{renumbered_segment}

-- what is found among segments is found where more stand behind them
front_found : (extent sector number : ℕ) (xs ys : List Segment) (f : ℕ × Segment) → segment_from extent sector number xs ≡ Some f
    → segment_from extent sector number (xs ++ ys) ≡ Some f
front_found extent sector number [] ys f is = absurd cc
front_found extent sector number (x ∷ xs) ys f is =
    by (has_sector extent sector x) is (front_found extent sector (number + 1) xs ys f) where
      by : (b : Bool) → cond b (Some (number, x)) (segment_from extent sector (number + 1) xs) ≡ Some f
          → (segment_from extent sector (number + 1) xs ≡ Some f → segment_from extent sector (number + 1) (xs ++ ys) ≡ Some f)
          → cond b (Some (number, x)) (segment_from extent sector (number + 1) (xs ++ ys)) ≡ Some f
      by true is later = is
      by false is later = later is

-- ---- a longer volume

module _ (name : List ℕ) (given : List Part) (group : Group) where
  abbrev grown : Row → Row
  grown row = changed_if name (longer_row given) row

  finds_grown : (row : Row) → FindsIn group.extent_size same_on row.1.segments (grown row).1.segments
  finds_grown row sector k s is = by (bytes_eq row.0 name) where
    by : (b : Bool) → segment_from group.extent_size sector 0 (cond b (longer_row given row) row).1.segments
        ≡ Some (k, renumbered_segment same_on s)
    by true =
        front_found group.extent_size sector 0 row.1.segments (segments_of (last_kind row.1.segments) (extents_of row.1) given) (k, s) is
        ∙ ap (λ (x : Segment). Some (k, x)) (sym (segment_is_same s))
    by false = finds_same group.extent_size row.1.segments sector k s is

  pub primary_longer : (lv sector : ℕ) (at : At) → primary group lv sector ≡ Some at
      → primary (longer_volume name given group) lv sector ≡ Some at
  primary_longer lv sector at is =
      primary_same group (longer_volume name given group) (λ k pv stays there. there) refl
      (λ n row there. (grown row, map_at grown group.lvs n row there, finds_grown row)) lv sector at is

-- ---- one more volume

module _ (row : Row) (group : Group) where
  pub primary_more : (lv sector : ℕ) (at : At) → primary group lv sector ≡ Some at → primary (with_volume row group) lv sector ≡ Some at
  primary_more lv sector at is =
      primary_same group (with_volume row group) (λ k pv stays there. there) refl
      (λ n r there. (r, slice_get-pushed group.lvs (row ∷ []) n r there, finds_same group.extent_size r.1.segments)) lv sector at is
