-- How pieces are kept so that those which share sectors with one are found: sorted by volume and first sector.
use Rattle.std.specs.Prelude.{◌≡◌, ◌≤◌, ℕ, Bool, true, ◌==◌, nat_le, nat_lt, ◌&&◌, ◌||◌, if◌then◌else◌, Option, Some, None, List, All}
use Rattle.std.specs.Prelude.{count_by}
use Rattle.std.specs.List.Sorted.{IsNonDecreasingBy}
use Rattle.std.specs.Ordering.{nat_cmp, bool_cmp, ordering_then}
use Rattle.std.specs.declared.cmp.Ordering.{Ordering}
use Rattle.sector_base.specs.declared.places.Piece.{Piece}
use Rattle.claim_table.specs.declared.claim.Claim.{Claim}
use Rattle.claim_table.specs.declared.placed.Placed.{Placed}
use Rattle.claim_table.specs.Extents.{end_of, overlaps}
use Rattle.claim_table.specs.Sorted.{IsAscending}

-- the place of a claim
abbrev pub placed : Claim → Placed
placed c = record { volume = c.piece.volume; first = c.piece.first; number = c.number; count = c.piece.count; write = c.piece.write }

-- the piece at a place
abbrev pub piece_of : Placed → Piece
piece_of e = record { volume = e.volume; first = e.first; count = e.count; write = e.write }

-- by volume, then by first sector, then by number, and then by what else they have
abbrev pub placed_cmp : Placed → Placed → Ordering
placed_cmp a b =
    ordering_then (nat_cmp a.volume b.volume)
    (ordering_then (nat_cmp a.first b.first)
    (ordering_then (nat_cmp a.number b.number) (ordering_then (nat_cmp a.count b.count) (bool_cmp a.write b.write))))

-- whether they are of one volume, share a sector, and one of them writes
abbrev pub meets : Piece → Placed → Bool
meets p e = (e.write || p.write) && overlaps (piece_of e) p

-- whether the number is below the limit, if there is one
abbrev pub is_below : Option ℕ → ℕ → Bool
is_below None number = true
is_below (Some limit) number = nat_lt number limit

-- whether the number at the place is below the limit, and the piece meets what lies there
abbrev pub is_met : Piece → Option ℕ → Placed → Bool
is_met p limit e = is_below limit e.number && meets p e

-- whether the place lies past the piece's end
abbrev pub is_past : Piece → Placed → Bool
is_past p e = if e.volume == p.volume then nat_le (end_of p) e.first else nat_lt p.volume e.volume

-- the pieces of a list, and room for so many more
pub record Kept : Type 0 where
  pub claims : List Claim
  pub room : ℕ

-- the list is in the order of its numbers, and its places are these, since each test is passed by as many; these are sorted,
-- and none is longer than this
pub record IsIndexed (claims : List Claim) (places : List Placed) (longest : ℕ) : Type 0 where
  pub by_number : IsNonDecreasingBy (λ c. c.number) claims
  pub same : (p : Placed → Bool) → count_by p places ≡ count_by (λ c. p (placed c)) claims
  pub ascending : IsAscending placed_cmp places
  pub short : All (λ e. e.count ≤ longest) places
