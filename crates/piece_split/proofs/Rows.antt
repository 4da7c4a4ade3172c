-- A request across a multiple of eight sectors, and one without sectors.
use Rattle.std.proofs.Common.{◌≡◌, false, true, [], ◌∷◌, refl}
use Rattle.piece_split.specs.Pieces.{pieces_of}

two_pieces : pieces_of 0 8190 4 false ≡ record { volume = 0; first = 8190; count = 2; write = false }
    ∷ record { volume = 0; first = 8192; count = 2; write = false } ∷ []
unfolding pieces_of
two_pieces = refl

no_piece : pieces_of 0 12 0 true ≡ []
unfolding pieces_of
no_piece = refl
