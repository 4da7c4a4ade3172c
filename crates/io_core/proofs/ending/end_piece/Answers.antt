use Rattle.std.proofs.Common.{◌≡◌, ◌≢◌, [], ℕ, Option, None, Some, true, is_some, sym, subst}
use Rattle.flush_plan.specs.Plans.{flight_of}
use Rattle.flush_waits.specs.Waits.{Waits, disk_waits}
use Rattle.piece_table.specs.declared.live.LivePiece.{LivePiece}
use Rattle.world_acts.specs.Acts.{follows, world}
use Rattle.world_acts.specs.OpenLines.{open_at}
use Rattle.world_acts.proofs.Orderly.{orderly_reaches}
use Rattle.world_acts.proofs.Reaching.{piece_goes, reaches_none}
use Rattle.io_core.specs.Rest.{IsCalm, just, no_one}
use Rattle.io_core.proofs.LiveLines.{live_other}
use Rattle.io_core.proofs.PieceAsks.{live_is}
use Rattle.io_core.proofs.ending.end_piece.Goals as goal

pub close_line-requires-clause-orderly : goal.close_line-requires-clause-orderly
close_line-requires-clause-orderly g c =
    let s = g.S.Shelf.state c.args.shelf.now in
    orderly_reaches (piece_goes c.args.number c.args.op c.args.well (world s c.args.core.now) (world s c.settle.new.core)
    (record { mid = world s c.settle.new.core; settles = c.settle.ensures.runs; goes = reaches_none follows (world s c.settle.new.core) }))
    c.requires.orderly

pub close_line-requires-clause-opened : goal.close_line-requires-clause-opened
close_line-requires-clause-opened g c =
    subst (λ (l : LivePiece). is_some (open_at c.settle.new.core.opens l.line) ≡ true)
    (live_is c.args.core.now.pieces c.args.number c.get.result.now c.get.ensures) c.settle.ensures.opened

pub close_line-requires-clause-other : goal.close_line-requires-clause-other
close_line-requires-clause-other g c =
    subst (λ (b : Option ℕ). b ≢ Some c.get.result.now.line) (sym c.settle.ensures.barrier)
    (live_other (world (g.S.Shelf.state c.args.shelf.now) c.args.core.now) c.args.number c.get.result.now c.requires.orderly
    c.get.ensures)

pub returns : goal.returns
returns g c =
    let s = g.S.Shelf.state c.args.shelf.now in
    let l : LivePiece = c.get.result.now in
    let calm : IsCalm no_one (just l.line) c.settle.new.core =
    subst (λ (x : LivePiece). IsCalm no_one (just x.line) c.settle.new.core)
    (live_is c.args.core.now.pieces c.args.number l c.get.ensures) (c.settle.ensures.calm c.requires.calm) in
    record {
      ends = record { mid = world s c.settle.new.core; settles = c.settle.ensures.runs; goes = c.close_line.ensures.reaches };
      calm = c.close_line.ensures.calm calm;
      released =
          λ are. subst (λ (x : Waits). (pv : ℕ) → flight_of x.plan pv ≡ None → (disk_waits x pv).served ≡ [])
          (sym c.close_line.ensures.waits) (c.settle.ensures.released are);
    }
