-- The pieces of a read or of a write, by blocks of eight sectors of its volume.
use Rattle.std.specs.Prelude.{ℕ, ◌+◌, ◌-◌, ◌*◌, ◌/◌, ◌==◌, Bool, if◌then◌else◌, max, min, List, [], map}
use Rattle.std.specs.List.{range_with_len}
use Rattle.sector_base.specs.declared.places.Piece.{Piece}

-- the numbers of the blocks of eight sectors in which a request of so many sectors from the first on has one
abbrev pub blocks_of : ℕ → ℕ → List ℕ
blocks_of first count = if count == 0 then [] else range_with_len (first / 8) ((first + count - 1) / 8 - first / 8 + 1)

-- the part of a request in the block of eight sectors with this number
abbrev pub piece_in : ℕ → ℕ → ℕ → Bool → ℕ → Piece
piece_in volume first count write block =
    record {
      volume = volume;
      first = max first (8 * block);
      count = min (first + count) (8 * block + 8) - max first (8 * block);
      write = write;
    }

-- the pieces of a request, in order: its part in each block
unfoldable pub pieces_of : ℕ → ℕ → ℕ → Bool → List Piece
pieces_of volume first count write = map (piece_in volume first count write) (blocks_of first count)
