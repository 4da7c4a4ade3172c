use Rattle.std.proofs.Common.{◌≡◌, map, take}
use Rattle.std.specs.Prelude.{All}
use Rattle.line_plans.specs.declared.preparing.NewPiece.{NewPiece}
use Rattle.line_plans.specs.Plans.{IsReadInto}
use Rattle.line_plans.proofs.preparing.read_pieces.Given as goal

abbrev pub invariant-loop-piece : goal.invariant-loop-piece
invariant-loop-piece l =
    record {
      cut : map (λ (new : NewPiece). new.piece) l.pieces.items ≡ take l.piece-index l.piece-items;
      each : All IsReadInto l.pieces.items;
    }
