-- The little-endian numbers in a sector, and a sector with other bytes at a place.
use Rattle.std.specs.Prelude.{ℕ, ◌+◌, List, length, take, drop, ◌++◌}
use Rattle.byteorder.specs.Endian.{little_number}
pub use Rattle.byteorder.specs.Endian.{little_bytes}

-- the number in so many bytes from a place on
abbrev pub field : ℕ → List ℕ → ℕ → ℕ
field count sector at = little_number count (drop at sector)

-- the sector with these bytes in place of as many from a place on
abbrev pub with_bytes : List ℕ → ℕ → List ℕ → List ℕ
with_bytes sector at bytes = take at sector ++ bytes ++ drop (at + length bytes) sector

-- the sector with this number in so many bytes from a place on
abbrev pub with_field : ℕ → List ℕ → ℕ → ℕ → List ℕ
with_field count sector at value = with_bytes sector at (little_bytes count value)
