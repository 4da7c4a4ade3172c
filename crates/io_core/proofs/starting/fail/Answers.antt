use Rattle.std.proofs.Common.{◌≡◌, ◌<◌, Bool, true, is_some, sym, ap, subst, ◌∙◌}
use Rattle.piece_table.specs.declared.live.LivePiece.{LivePiece}
use Rattle.piece_table.specs.Pieces.{Pieces, flying_at, is_among, is_started_stage}
use Rattle.world_acts.specs.declared.room.Room.{Room}
use Rattle.world_acts.specs.Acts.{world}
use Rattle.world_acts.specs.OpenLines.{Opens, left_of}
use Rattle.world_acts.specs.Rooms.{Covers, fail_room}
use Rattle.io_core.proofs.PieceAsks.{fail_covered, found, live_is}
use Rattle.io_core.proofs.StartedAsks.{IsAtWork, at_work, left_failing}
use Rattle.io_core.proofs.Tickets.{StaysStarted, stays_started}
use Rattle.io_core.proofs.starting.fail.Goals as goal

pub failed-requires-clause-entry : goal.failed-requires-clause-entry
failed-requires-clause-entry g c =
    (at_work (world (g.S.Shelf.state c.args.shelf.now) c.args.core.now) c.args.number c.get-live.result.now c.requires.orderly
    c.get-live.ensures c.requires.started).entry

pub failed-requires-clause-line : goal.failed-requires-clause-line
failed-requires-clause-line g c =
    (at_work (world (g.S.Shelf.state c.args.shelf.now) c.args.core.now) c.args.number c.get-live.result.now c.requires.orderly
    c.get-live.ensures c.requires.started).line

pub shrink-requires : goal.shrink-requires
shrink-requires g c =
    let l : LivePiece = c.get-live.result.now in
    let owed : Room = c.args.core.now.owed in
    let at : IsAtWork (world (g.S.Shelf.state c.args.shelf.now) c.args.core.now) l =
    at_work (world (g.S.Shelf.state c.args.shelf.now) c.args.core.now) c.args.number l c.requires.orderly c.get-live.ensures
    c.requires.started in
    let through : c.is_some-is_through.result ≡ is_some l.ticket =
    c.is_some-is_through.ensures
    ∙ ap is_some (c.take_ticket.ensures.ticket
    ∙ ap (λ (x : LivePiece). x.ticket) (live_is c.args.core.now.pieces c.args.number l c.get-live.ensures)) in
    subst (λ (r : Room). Covers owed r) (sym c.of_failure.ensures)
    (subst (λ (b : Bool). Covers owed (fail_room l.piece b)) (sym through) (fail_covered owed l at.room))

pub leave-requires-clause-among : goal.leave-requires-clause-among
leave-requires-clause-among g c =
    let l : LivePiece = c.get-live.result.now in
    let pieces : Pieces = c.args.core.now.pieces in
    let stays : StaysStarted pieces c.args.number l =
    stays_started pieces c.args.number l c.requires.orderly.tidy.pieces.single c.get-live.ensures
    (found (λ (y : LivePiece). is_started_stage y.stage) _ l c.get-live.ensures c.requires.started) in
    subst (λ (p : Pieces). is_among p c.args.number ≡ true) (sym c.take_ticket.ensures.after) stays.among

pub leave-requires-clause-landed : goal.leave-requires-clause-landed
leave-requires-clause-landed g c =
    let l : LivePiece = c.get-live.result.now in
    let pieces : Pieces = c.args.core.now.pieces in
    let stays : StaysStarted pieces c.args.number l =
    stays_started pieces c.args.number l c.requires.orderly.tidy.pieces.single c.get-live.ensures
    (found (λ (y : LivePiece). is_started_stage y.stage) _ l c.get-live.ensures c.requires.started) in
    subst (λ (p : Pieces). flying_at p c.args.number ≡ 0) (sym c.take_ticket.ensures.after) (stays.flying ∙ c.requires.landed)

pub fail-requires : goal.fail-requires
fail-requires g c =
    (at_work (world (g.S.Shelf.state c.args.shelf.now) c.args.core.now) c.args.number c.get-live.result.now c.requires.orderly
    c.get-live.ensures c.requires.started).opened

pub finish-requires : goal.finish-requires
finish-requires g c =
    let l : LivePiece = c.get-live.result.now in
    let at : IsAtWork (world (g.S.Shelf.state c.args.shelf.now) c.args.core.now) l =
    at_work (world (g.S.Shelf.state c.args.shelf.now) c.args.core.now) c.args.number l c.requires.orderly c.get-live.ensures
    c.requires.started in
    subst (λ (o : Opens). 0 < left_of o l.line) (sym c.fail.ensures)
    (left_failing c.args.core.now.opens l.line c.args.answer at.of_line.opened at.of_line.is_open at.left)
