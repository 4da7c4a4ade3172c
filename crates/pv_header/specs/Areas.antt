-- Where the areas of a physical volume may lie on a disk.
use Rattle.std.specs.Prelude.{◌≡◌, ℕ, ◌+◌, ◌%◌, Bool, not, ◌||◌, ◌&&◌, ◌==◌, nat_lt, if◌then◌else◌, min, max, Option, None, List, [], ◌∷◌}
use Rattle.std.specs.Prelude.{◌++◌, map, filter, find, unwrap_or}
use Rattle.std.specs.List.{reduce}
use Rattle.pv_header.specs.declared.extent_list.Extent.{Extent}

-- whether an area's end is past the disk's
abbrev pub is_outside : ℕ → Extent → Bool
is_outside disk_bytes area = nat_lt disk_bytes (area.offset + area.size)

-- whether a metadata area isn't made of whole sectors, begins below byte 2,048, or has fewer than three sectors
abbrev pub is_misshapen : Extent → Bool
is_misshapen area = not (area.offset % 512 == 0) || not (area.size % 512 == 0) || nat_lt area.offset 2048 || nat_lt area.size 1536

-- whether an area comes next at or after a place: it begins after it, or it begins there and has a size of its own
abbrev pub comes_next : ℕ → Extent → Bool
comes_next place area = nat_lt place area.offset || (area.offset == place && not (area.size == 0))

-- where the next of these areas at or after a place begins, and the stop where none does
unfoldable pub next_start : List Extent → ℕ → ℕ → ℕ
next_start areas place stop = unwrap_or (reduce min (map (λ area. area.offset) (filter (comes_next place) areas))) stop

-- where an area counts as ending: one of size 0 where the next of all areas at or after its offset begins, or at the
-- disk's end. Where another begins with it, it is empty.
abbrev pub end_of : List Extent → ℕ → Extent → ℕ
end_of areas disk_bytes area = if area.size == 0 then next_start areas area.offset disk_bytes else area.offset + area.size

-- whether two of these areas share a byte
unfoldable pub shares_byte : List Extent → ℕ → Extent → Extent → Bool
shares_byte areas disk_bytes a b = nat_lt (max a.offset b.offset) (min (end_of areas disk_bytes a) (end_of areas disk_bytes b))

-- each area with each later one, in the order of the first and then of the second
abbrev pub pairs_of : List Extent → List (Extent × Extent)
pairs_of [] = []
pairs_of (area ∷ later) = map (λ other. (area, other)) later ++ pairs_of later

-- the first two of these areas that share a byte
unfoldable pub first_overlap : List Extent → ℕ → Option (Extent × Extent)
first_overlap areas disk_bytes = find (λ pair. shares_byte areas disk_bytes pair.0 pair.1) (pairs_of areas)

-- the data areas and the metadata areas can lie on a disk of so many bytes
pub record CanLie (data_areas areas : List Extent) (disk_bytes : ℕ) : Type 0 where
  pub inside : find (is_outside disk_bytes) (data_areas ++ areas) ≡ None
  pub well_shaped : find is_misshapen areas ≡ None
  pub apart : first_overlap (data_areas ++ areas) disk_bytes ≡ None
