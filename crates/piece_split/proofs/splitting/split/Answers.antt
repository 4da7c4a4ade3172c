use Rattle.std.proofs.Common.{◌≡◌, ◌+◌, ◌-◌, ◌++◌, ◌∷◌, [], ℕ, List, ap, ◌∙◌, arith}
use Rattle.sector_base.specs.declared.places.Piece.{Piece}
use Rattle.piece_split.specs.Pieces.{pieces_of}
use Rattle.piece_split.proofs.Cutting.{all_pieces, more_pieces, piece}
use Rattle.piece_split.proofs.splitting.split.Goals as goal

pub loop-left-preserved : goal.loop-left-preserved
loop-left-preserved c =
    let volume = c.args.volume in
    let write = c.args.write in
    let at = c.loop-left.at in
    let left = c.loop-left.left in
    let count = c.up_to_multiple-count.result in
    let next : c.from-at.result ≡ count = c.from-at.ensures in
    record {
      so_far =
          ap (λ (pieces : List Piece). pieces ++ pieces_of volume (at + c.from-at.result) (left - count) write) c.in_ok-push.ensures.items
          ∙ ap (λ (n : ℕ). (c.loop-left.pieces.items ++ piece volume write at count ∷ []) ++ pieces_of volume (at + n) (left - count) write)
          next
          ∙ more_pieces volume at left count write c.loop-left.pieces.items (pieces_of volume c.args.first c.args.count write) (omega arith)
          c.up_to_multiple-count.ensures c.loop-left.invariant.so_far;
      ends = omega (arith, next, c.loop-left.invariant.ends, c.up_to_multiple-count.ensures);
    }

pub returns : goal.returns
returns c =
    c.from_vec.ensures ∙ all_pieces c.args.volume c.loop-left.at c.loop-left.left c.args.write c.loop-left.pieces.items
    (pieces_of c.args.volume c.args.first c.args.count c.args.write) (omega arith) c.loop-left.invariant.so_far
