-- Which sectors of its volume a piece has.
use Rattle.std.specs.Prelude.{ℕ, ◌+◌, Bool, ◌==◌, nat_lt, ◌&&◌, max, min}
use Rattle.sector_base.specs.declared.places.Piece.{Piece}

-- where a piece ends in its volume
abbrev pub end_of : Piece → ℕ
end_of p = p.first + p.count

-- whether the pieces are of one volume and share a sector
abbrev pub overlaps : Piece → Piece → Bool
overlaps p q = (p.volume == q.volume) && nat_lt (max p.first q.first) (min (end_of p) (end_of q))
