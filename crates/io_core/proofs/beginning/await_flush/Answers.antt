use Rattle.std.proofs.Common.{◌≡◌, ◌∙◌, ap, sym, arith}
use Rattle.world_acts.specs.declared.open_line.OpenLine.{OpenLine}
use Rattle.world_acts.specs.Acts.{World, world}
use Rattle.flush_waits.specs.Waits.{dirty_at}
use Rattle.world_acts.proofs.LinesKept.{open_is}
use Rattle.io_core.proofs.LineWaits.{WaitsOn, awaits_so, last_within}
use Rattle.io_core.proofs.beginning.await_flush.Goals as goal

pub dirty-last-requires : goal.dirty-last-requires
dirty-last-requires g c = record {
  within =
      last_within (world (g.S.Shelf.state c.args.shelf.now) c.args.core.now) c.args.line c.args.pv c.get.result.now
      (record {
        orderly = c.requires.orderly;
        opened = c.requires.opened;
        whole = c.requires.whole;
        flushes = c.requires.flushes;
        well = c.requires.well;
        stands = c.requires.stands;
        disk = c.requires.disk;
        other = c.requires.other;
        room = c.requires.room;
        few = c.requires.few;
        newest = c.requires.newest;
      }) c.get.ensures;
}

pub await_write-requires : goal.await_write-requires
await_write-requires g c = record {
  opened = c.requires.opened;
  disk = c.requires.disk;
  completed = c.dirty-last.ensures.completed;
  room = omega (arith, c.requires.room.waits);
  owed = omega (arith, c.requires.room.counted.ops);
  few = c.requires.few;
}

pub returns : goal.returns
returns g c =
    let w : World = world (g.S.Shelf.state c.args.shelf.now) c.args.core.now in
    let key : c.dirty-last.result ≡ dirty_at w.core.waits c.get.result.now.key c.args.pv = c.dirty-last.ensures.place in
    let is : WaitsOn c.args.line c.args.pv w (world w.shelf c.await_write.new.core) =
    awaits_so w c.args.line c.args.pv c.dirty-last.result c.await_write.new.core
    (record {
      orderly = c.requires.orderly;
      opened = c.requires.opened;
      whole = c.requires.whole;
      flushes = c.requires.flushes;
      well = c.requires.well;
      stands = c.requires.stands;
      disk = c.requires.disk;
      other = c.requires.other;
      room = c.requires.room;
      few = c.requires.few;
      newest = c.requires.newest;
    })
    (key ∙ ap (λ (o : OpenLine). dirty_at w.core.waits o.key c.args.pv)
    (sym (open_is w.core.opens c.args.line c.get.result.now c.get.ensures))) c.await_write.ensures in
    record {
      prepares = is.prepares;
      well = is.well;
      room = is.room;
      calm = is.calm;
      released = is.released;
      opens = is.opens;
      pieces = is.pieces;
      barrier = is.barrier ∙ c.requires.other;
      lines = is.lines;
      left = is.left;
      here = is.here;
      others = is.others;
    }
