-- Which signature stands on a disk.
use Rattle.std.specs.Prelude.{ℕ, Bool, false, nat_eq, if◌then◌else◌, List, [], ◌∷◌, drop, Option, Some, None}
use Rattle.std.specs.List.{starts_with}
use Rattle.std.specs.Option.{option_map_or}
use Rattle.disk_signature.specs.declared.kind.Kind.{Kind}
use Rattle.disk_signature.specs.Places.{byte_in, sector_of}
use Rattle.disk_signature.specs.Table.{Row, signatures}

-- whether the sector has the bytes of the row where these have to be
abbrev pub has_bytes : Row → List ℕ → Bool
has_bytes row sector = starts_with nat_eq (drop (byte_in row.place) sector) row.bytes

-- whether the row's sector is one of the disk's, and has its bytes
abbrev pub stands : (ℕ → List ℕ) → ℕ → Row → Bool
stands sector_at disk row = option_map_or (λ sector. has_bytes row (sector_at sector)) (sector_of row.place disk) false

-- what the first of these rows tells that stands on a disk of so many sectors, with these contents
abbrev pub first_among : List Row → (ℕ → List ℕ) → ℕ → Option Kind
first_among [] sector_at disk = None
first_among (row ∷ rows) sector_at disk = if stands sector_at disk row then Some row.kind else first_among rows sector_at disk

-- what the first row of the table tells that does
abbrev pub first_kind : (ℕ → List ℕ) → ℕ → Option Kind
first_kind sector_at disk = first_among signatures sector_at disk
