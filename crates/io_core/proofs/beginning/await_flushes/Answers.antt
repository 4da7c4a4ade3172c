use Rattle.std.proofs.Common.{◌≡◌, ◌+◌, List, length, sym, ap, ◌∙◌, arith}
use Rattle.std.proofs.lemmas.List.{length_push}
use Rattle.world_acts.specs.Acts.{World, world}
use Rattle.io_core.proofs.LineWaits.{MayAwaitFlush, waited_more, waited_next, waited_none}
use Rattle.io_core.proofs.beginning.await_flushes.Goals as goal

pub loop-ticket-init : goal.loop-ticket-init
loop-ticket-init g c =
    let w : World = world (g.S.Shelf.state c.args.shelf.now) c.args.core.now in
    waited_none c.args.line (length c.args.tickets.items) w
    (record {
      orderly = c.requires.orderly;
      opened = c.requires.opened;
      tickets = c.requires.tickets;
      other = c.requires.other;
      room = c.requires.room;
      few = c.requires.few;
      newest = c.requires.newest;
    })

pub await_flush-requires : goal.await_flush-requires
await_flush-requires g c =
    let w : World = world (g.S.Shelf.state c.args.shelf.now) c.args.core.now in
    let v : World = world (g.S.Shelf.state c.args.shelf.now) c.loop-ticket.core in
    let next : length c.loop-ticket.rest.items ≡ length c.pop.new.self.items + 1 =
    ap (λ (l : List (Unit {0})). length l) c.in-Some.ensures.items ∙ length_push c.pop.new.self.items c.in-Some.ticket in
    let is : MayAwaitFlush v c.args.line c.loop-ticket.pv =
    waited_next c.args.line w v c.loop-ticket.pv (length c.pop.new.self.items) (length c.loop-ticket.rest.items)
    (length c.args.tickets.items)
    (record {
      orderly = c.requires.orderly;
      opened = c.requires.opened;
      tickets = c.requires.tickets;
      other = c.requires.other;
      room = c.requires.room;
      few = c.requires.few;
      newest = c.requires.newest;
    }) next c.loop-ticket.invariant in
    record {
      orderly = is.orderly;
      opened = is.opened;
      whole = is.whole;
      flushes = is.flushes;
      well = is.well;
      stands = is.stands;
      disk = is.disk;
      other = is.other;
      room = is.room;
      few = is.few;
      newest = is.newest;
    }

pub loop-ticket-preserved : goal.loop-ticket-preserved
loop-ticket-preserved g c =
    let w : World = world (g.S.Shelf.state c.args.shelf.now) c.args.core.now in
    let v : World = world (g.S.Shelf.state c.args.shelf.now) c.loop-ticket.core in
    let u : World = world (g.S.Shelf.state c.args.shelf.now) c.await_flush.new.core in
    let next : length c.loop-ticket.rest.items ≡ length c.pop.new.self.items + 1 =
    ap (λ (l : List (Unit {0})). length l) c.in-Some.ensures.items ∙ length_push c.pop.new.self.items c.in-Some.ticket in
    let is = c.await_flush.ensures in
    waited_more c.args.line w v u c.loop-ticket.pv (length c.pop.new.self.items) (length c.loop-ticket.rest.items)
    (length c.args.tickets.items) next c.loop-ticket.invariant
    (record {
      prepares = is.prepares;
      well = is.well;
      room = is.room;
      calm = is.calm;
      released = is.released;
      opens = is.opens;
      pieces = is.pieces;
      barrier = is.barrier ∙ sym c.loop-ticket.invariant.has.barrier;
      lines = is.lines;
      left = is.left;
      here = is.here;
      others = is.others;
    })

pub returns : goal.returns
returns g c =
    let is = c.loop-ticket.invariant in
    record {
      prepares = is.has.prepares;
      none = is.has.none;
      calm = is.has.calm;
      released = is.has.released;
      opens = is.has.opens;
      pieces = is.has.pieces;
      barrier = is.has.barrier;
      left = omega (arith, is.has.left, is.count);
      awaits =
          λ pv below. is.has.awaits pv
          (omega (arith, below, is.count, c.in_default.ensures.cases.0, c.loop-ticket.rest.ok.0));
    }
