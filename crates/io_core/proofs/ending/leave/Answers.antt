use Rattle.std.proofs.Common.{◌<◌, subst}
use Rattle.piece_table.specs.declared.live.LivePiece.{LivePiece}
use Rattle.world_acts.specs.OpenLines.{left_of}
use Rattle.io_core.proofs.PieceAsks.{live_is}
use Rattle.io_core.proofs.ending.leave.Goals as goal

pub finish-requires : goal.finish-requires
finish-requires c =
    subst (λ (l : LivePiece). 0 < left_of c.args.core.now.opens l.line)
    (live_is c.args.core.now.pieces c.args.number c.get.result.now c.get.ensures) c.requires.left
