use Rattle.std.proofs.Common.{length}
use Rattle.world_acts.specs.Acts.{World, world}
use Rattle.io_core.proofs.LineBegins.{IsCarriedOn, MayClose, carried_on, first_waits, none_in, then_closes, then_enters}
use Rattle.io_core.proofs.LineWaits.{MayAwaitFlushes}
use Rattle.io_core.proofs.PieceEnters.{MayEnterPieces, pieces_in}
use Rattle.io_core.proofs.beginning.carry_on.Goals as goal

pub await_flushes-requires : goal.await_flushes-requires
await_flushes-requires g c =
    let w : World = world (g.S.Shelf.state c.args.shelf.now) c.args.core.now in
    let is : MayAwaitFlushes w c.args.line (length c.args.tickets.items) =
    first_waits w c.args.line c.args.pieces.items (length c.args.tickets.items) c.requires.may in
    record {
      orderly = is.orderly;
      opened = is.opened;
      tickets = is.tickets;
      other = is.other;
      room = is.room;
      few = is.few;
      newest = is.newest;
    }

pub enter_pieces-first-requires : goal.enter_pieces-first-requires
enter_pieces-first-requires g c =
    let w : World = world (g.S.Shelf.state c.args.shelf.now) c.args.core.now in
    let s = c.await_flushes.ensures in
    let is : MayEnterPieces (world w.shelf c.await_flushes.new.core) c.args.line c.args.pieces.items =
    then_enters w c.args.line c.args.pieces.items (length c.args.tickets.items) c.await_flushes.new.core c.requires.may
    (record {
      prepares = s.prepares;
      none = s.none;
      calm = s.calm;
      released = s.released;
      opens = s.opens;
      pieces = s.pieces;
      barrier = s.barrier;
      left = s.left;
      awaits = s.awaits;
    }) in
    record { orderly = is.orderly; opened = is.opened; each = is.each; room = is.room; spare = is.spare; few = is.few }

pub close_line-requires : goal.close_line-requires
close_line-requires g c =
    let w : World = world (g.S.Shelf.state c.args.shelf.now) c.args.core.now in
    let v : World = world w.shelf c.await_flushes.new.core in
    let u : World = world (g.S.Shelf.state c.enter_pieces-first.new.shelf) c.enter_pieces-first.new.core in
    let s = c.await_flushes.ensures in
    let t = c.enter_pieces-first.ensures in
    let is : MayClose u c.args.line =
    then_closes w v u c.args.line (length c.args.tickets.items) c.args.pieces.items c.enter_pieces-first.result c.requires.may
    (record {
      prepares = s.prepares;
      none = s.none;
      calm = s.calm;
      released = s.released;
      opens = s.opens;
      pieces = s.pieces;
      barrier = s.barrier;
      left = s.left;
      awaits = s.awaits;
    })
    (record {
      prepares = t.prepares;
      none = λ is. t.none (none_in c.args.pieces.items is);
      calm = t.calm;
      ready = t.ready;
      opens = t.opens;
      barrier = t.barrier;
      waits = t.waits;
    }) in
    record { orderly = is.orderly; opened = is.opened; other = is.other }

pub returns : goal.returns
returns g c =
    let w : World = world (g.S.Shelf.state c.args.shelf.now) c.args.core.now in
    let v : World = world w.shelf c.await_flushes.new.core in
    let u : World = world (g.S.Shelf.state c.enter_pieces-first.new.shelf) c.enter_pieces-first.new.core in
    let s = c.await_flushes.ensures in
    let t = c.enter_pieces-first.ensures in
    let e = c.close_line.ensures in
    let is : IsCarriedOn c.args.line (pieces_in c.args.pieces.items) c.enter_pieces-first.result w (world u.shelf c.close_line.new.core) =
    carried_on w v u (world u.shelf c.close_line.new.core) c.args.line (length c.args.tickets.items) c.args.pieces.items
    c.enter_pieces-first.result c.requires.may
    (record {
      prepares = s.prepares;
      none = s.none;
      calm = s.calm;
      released = s.released;
      opens = s.opens;
      pieces = s.pieces;
      barrier = s.barrier;
      left = s.left;
      awaits = s.awaits;
    })
    (record {
      prepares = t.prepares;
      none = λ is. t.none (none_in c.args.pieces.items is);
      calm = t.calm;
      ready = t.ready;
      opens = t.opens;
      barrier = t.barrier;
      waits = t.waits;
    })
    (record { reaches = e.reaches; calm = e.calm; pieces = e.pieces; waits = e.waits }) in
    record { carried = is.carried; settled = is.settled }
