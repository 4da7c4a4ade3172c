use Rattle.std.proofs.Common.{None, Some}
use Rattle.world_acts.specs.Acts.{World, world}
use Rattle.io_core.proofs.PieceEnters.{PieceEnters, deferred_so, orderly_so, started_so}
use Rattle.io_core.proofs.beginning.enter_piece.Goals as goal

pub start-requires : goal.start-requires
start-requires g c =
    let r = c.requires in
    let e = c.enter-number in
    record {
      orderly =
          orderly_so (world (g.S.Shelf.state c.args.shelf.now) c.args.core.now) c.args.line c.args.new
          (record { orderly = r.orderly; opened = r.opened; may = r.may; room = r.room; spare = r.spare; few = r.few }) e.new.core
          e.result.1 e.ensures.answer e.ensures.after;
      waiting = e.ensures.started c.in-Started.is;
    }

pub returns-in-Started : goal.returns-in-Started
returns-in-Started g c =
    let w : World = world (g.S.Shelf.state c.args.shelf.now) c.args.core.now in
    let v : World = world (g.S.Shelf.state c.start.new.shelf) c.start.new.core in
    let r = c.requires in
    let e = c.enter-number in
    let s = c.start.ensures in
    let is : PieceEnters c.args.line c.args.new None w v =
    started_so w c.args.line c.args.new
    (record { orderly = r.orderly; opened = r.opened; may = r.may; room = r.room; spare = r.spare; few = r.few }) e.new.core e.result.0
    e.result.1 v c.agree.ensures.claimed c.agree.ensures.numbered e.ensures.number e.ensures.answer c.in-Started.is e.ensures.after
    (record { reaches = s.reaches; calm = s.calm; opens = s.opens; barrier = s.barrier; claims = s.claims; waits = s.waits }) in
    record {
      prepares = is.prepares;
      room = is.room;
      spare = is.spare;
      calm = is.calm;
      ready = is.ready;
      opens = is.opens;
      barrier = is.barrier;
      waits = is.waits;
      left = is.left;
    }

pub returns-in-Deferred : goal.returns-in-Deferred
returns-in-Deferred g c =
    let w : World = world (g.S.Shelf.state c.args.shelf.now) c.args.core.now in
    let r = c.requires in
    let e = c.enter-number in
    let is : PieceEnters c.args.line c.args.new (Some c.in-Deferred.by) w (world w.shelf e.new.core) =
    deferred_so w c.args.line c.args.new
    (record { orderly = r.orderly; opened = r.opened; may = r.may; room = r.room; spare = r.spare; few = r.few }) e.new.core e.result.1
    c.in-Deferred.by c.claims_stay_apart.ensures.free c.agree.ensures.numbered e.ensures.answer c.in-Deferred.is e.ensures.after in
    record {
      prepares = is.prepares;
      room = is.room;
      spare = is.spare;
      calm = is.calm;
      ready = is.ready;
      opens = is.opens;
      barrier = is.barrier;
      waits = is.waits;
      left = is.left;
    }
