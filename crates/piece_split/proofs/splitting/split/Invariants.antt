use Rattle.std.proofs.Common.{◌≡◌, ◌+◌, ◌++◌}
use Rattle.piece_split.specs.Pieces.{pieces_of}
use Rattle.piece_split.proofs.splitting.split.Given as goal

abbrev pub invariant-loop-left : goal.invariant-loop-left
invariant-loop-left l =
    record {
      so_far : l.pieces.items ++ pieces_of l.volume l.at l.left l.write ≡ pieces_of l.volume l.first l.count l.write;
      ends : l.at + l.left ≡ l.first + l.count;
    }

abbrev pub decreases-loop-left : goal.decreases-loop-left
decreases-loop-left l = l.left
