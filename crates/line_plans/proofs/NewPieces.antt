-- One new piece more.
use Rattle.std.proofs.Common.{◌≡◌, ◌<◌, ℕ, ◌+◌, List, [], ◌∷◌, ◌++◌, length, get_or, map, take, sym, ap, subst, ◌∙◌}
use Rattle.std.specs.Prelude.{All}
use Rattle.std.proofs.lemmas.List.{map_push, take_more}
use Rattle.std.proofs.lemmas.List.Elements.{All-push}
use Rattle.sector_base.specs.declared.places.Piece.{Piece}
use Rattle.line_plans.specs.declared.preparing.NewPiece.{NewPiece}

-- the pieces so far
pub cut_more : (news all : List NewPiece) (new : NewPiece) (items : List Piece) (k : ℕ) → k < length items
    → new.piece ≡ get_or items k new.piece
    → all ≡ news ++ new ∷ [] → map (λ (n : NewPiece). n.piece) news ≡ take k items
    → map (λ (n : NewPiece). n.piece) all ≡ take (k + 1) items
cut_more news all new items k within is pushed so_far =
    ap (map (λ (n : NewPiece). n.piece)) pushed ∙ map_push (λ (n : NewPiece). n.piece) news new
    ∙ ap (λ (l : List Piece). l ++ new.piece ∷ []) so_far
    ∙ ap (λ (p : Piece). take k items ++ p ∷ []) is ∙ sym (take_more items k new.piece within)

-- and what each of them has
pub each_more : (P : NewPiece → Type 0) (news all : List NewPiece) (new : NewPiece) → all ≡ news ++ new ∷ [] → All P news → P new
    → All P all
each_more P news all new pushed each own = subst (All P) (sym pushed) (All-push P news new each own)
