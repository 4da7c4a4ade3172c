-- What holds of the pieces of every request.
use Rattle.std.specs.Prelude.{◌≡◌, ◌≤◌, ◌<◌, ℕ, ◌+◌, ◌/◌, ◌%◌, Bool, Some, List, [], ◌∷◌, All, Contains, drop, map}
use Rattle.sector_base.specs.declared.places.Piece.{Piece}
use Rattle.meta_model.specs.declared.group.Group.{Group}
use Rattle.meta_model.specs.declared.segment.On.TheVariants as on
use Rattle.volume_rules.specs.Rules.{IsAccepted}
use Rattle.volume_view.specs.Places.{Places, mark, places, places_on, way}
use Rattle.piece_split.specs.Pieces.{pieces_of}

-- each piece begins where the one before ends, the first at one sector, and the last ends before another
abbrev pub Cover : ℕ → ℕ → List Piece → Type 0
Cover from to [] = from ≡ to
Cover from to (piece ∷ pieces) = (piece.first ≡ from) × Cover (piece.first + piece.count) to pieces

-- the pieces cover their request, in order
abbrev pub PiecesCoverRequest : Type 0
PiecesCoverRequest = (volume first count : ℕ) (write : Bool) → Cover first (first + count) (pieces_of volume first count write)

-- they are of its volume, and read or write as it does
abbrev pub PiecesAreOfRequest : Type 0
PiecesAreOfRequest =
    (volume first count : ℕ) (write : Bool) → All (λ piece. (piece.volume ≡ volume) × (piece.write ≡ write))
    (pieces_of volume first count write)

-- a piece has a sector, and all its sectors lie between two multiples of eight
abbrev pub IsInOneBlock : Piece → Type 0
IsInOneBlock piece = (1 ≤ piece.count) × ((k : ℕ) → k < piece.count → (piece.first + k) / 8 ≡ piece.first / 8)

-- each piece is so, and each but the first begins at a multiple of eight
abbrev pub PiecesAreCut : Type 0
PiecesAreCut =
    (volume first count : ℕ) (write : Bool)
    → All IsInOneBlock (pieces_of volume first count write)
    × All (λ piece. piece.first % 8 ≡ 0) (drop 1 (pieces_of volume first count write))

-- in every accepted group the sectors of a piece stand side by side at each of their places, and on their way down meet the
-- same segments and regions
abbrev pub PiecesLieInOneRegion : Type 0
PiecesLieInOneRegion =
    (group : Group) (lv volume first count k : ℕ) (write : Bool) (piece : Piece) (p : Places)
    → IsAccepted group → Contains (pieces_of volume first count write) piece → k < piece.count → places group lv piece.first ≡ Some p
    → (places group lv (piece.first + k) ≡ Some (places_on k p))
    × (map mark (way group (on.Lv lv) 5 (piece.first + k)) ≡ map mark (way group (on.Lv lv) 5 piece.first))
