use Rattle.std.proofs.Common.{◌≡◌, ◌<◌, length, sym, ap, subst, ◌∙◌}
use Rattle.piece_table.specs.declared.live.LivePiece.{LivePiece}
use Rattle.world_acts.specs.Acts.{world}
use Rattle.world_acts.specs.OpenLines.{Opens, left_of}
use Rattle.io_core.proofs.PieceAsks.{live_is, read_covered}
use Rattle.io_core.proofs.StartedAsks.{IsAtWork, at_work, fits_line, left_filling}
use Rattle.io_core.proofs.ending.read.Goals as goal

pub took-requires-clause-entry : goal.took-requires-clause-entry
took-requires-clause-entry g c =
    (at_work (world (g.S.Shelf.state c.args.shelf.now) c.args.core.now) c.args.number c.get-live.result.now c.requires.orderly
    c.get-live.ensures c.requires.started).entry

pub took-requires-clause-line : goal.took-requires-clause-line
took-requires-clause-line g c =
    (at_work (world (g.S.Shelf.state c.args.shelf.now) c.args.core.now) c.args.number c.get-live.result.now c.requires.orderly
    c.get-live.ensures c.requires.started).line

pub shrink-requires : goal.shrink-requires
shrink-requires g c =
    let l : LivePiece = c.get-live.result.now in
    let at : IsAtWork (world (g.S.Shelf.state c.args.shelf.now) c.args.core.now) l =
    at_work (world (g.S.Shelf.state c.args.shelf.now) c.args.core.now) c.args.number l c.requires.orderly c.get-live.ensures
    c.requires.started in
    read_covered c.args.core.now.owed l at.room

pub fill-requires-clause-opened : goal.fill-requires-clause-opened
fill-requires-clause-opened g c =
    (at_work (world (g.S.Shelf.state c.args.shelf.now) c.args.core.now) c.args.number c.get-live.result.now c.requires.orderly
    c.get-live.ensures c.requires.started).opened

pub fill-requires-clause-within : goal.fill-requires-clause-within
fill-requires-clause-within g c =
    let l : LivePiece = c.get-live.result.now in
    let at : IsAtWork (world (g.S.Shelf.state c.args.shelf.now) c.args.core.now) l =
    at_work (world (g.S.Shelf.state c.args.shelf.now) c.args.core.now) c.args.number l c.requires.orderly c.get-live.ensures
    c.requires.started in
    let many : length c.args.sectors.now ≡ l.piece.count =
    c.requires.many ∙ ap (λ (x : LivePiece). x.piece.count) (live_is c.args.core.now.pieces c.args.number l c.get-live.ensures) in
    fits_line c.args.core.now.opens l (length c.args.sectors.now) at.of_line many

pub finish-requires : goal.finish-requires
finish-requires g c =
    let l : LivePiece = c.get-live.result.now in
    let at : IsAtWork (world (g.S.Shelf.state c.args.shelf.now) c.args.core.now) l =
    at_work (world (g.S.Shelf.state c.args.shelf.now) c.args.core.now) c.args.number l c.requires.orderly c.get-live.ensures
    c.requires.started in
    subst (λ (o : Opens). 0 < left_of o l.line) (sym c.fill.ensures)
    (left_filling c.args.core.now.opens l c.args.sectors.now at.of_line at.left)
