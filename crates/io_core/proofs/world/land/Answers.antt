use Rattle.std.proofs.Common.{sym}
use Rattle.io_core.proofs.Landing.{ends_flush, ends_piece, flush_is_in_flight, flush_of_done, follows_flush, follows_piece}
use Rattle.io_core.proofs.Landing.{no_read, no_write}
use Rattle.io_core.proofs.world.land.Goals as goal

pub end_piece-requires : goal.end_piece-requires
end_piece-requires g c =
    let r = ends_piece c.requires.0 (g.S.Shelf.state c.args.shelf.now) c.args.core.now c.args.done c.in-Some.owner c.lands.new.self
    c.requires.1 c.requires.2 (g.met.S.Shelf.lawful c.args.shelf.now) (sym c.in-Some.ensures.owner) c.in-Some.ensures.after in
    record { orderly = r.orderly; started = r.started; landed = r.landed; work = r.work; lies = r.lies; calm = r.calm }

pub ended-requires : goal.ended-requires
ended-requires g c =
    flush_is_in_flight c.requires.0 (g.S.Shelf.state c.args.shelf.now) c.args.core.now c.args.done c.requires.1 c.requires.2
    (sym c.in-None.ensures.owner)

pub release_all-requires : goal.release_all-requires
release_all-requires g c =
    let r = ends_flush c.requires.0 (g.S.Shelf.state c.args.shelf.now) c.args.core.now c.args.done c.in-Flush.pv c.lands.new.self
    c.ended.new.self c.requires.1 c.requires.2 (g.met.S.Shelf.lawful c.args.shelf.now) (sym c.in-None.ensures.owner) c.in-Flush.is
    c.in-None.ensures.after c.ended.ensures.after c.ended.ensures.none in
    record { orderly = r.orderly; disk = r.disk; ended = r.ended; calm = r.calm }

pub unreachable-requires : goal.unreachable-requires
unreachable-requires g c =
    no_read c.args.core.now c.args.done c.in-Read._span c.in-Read._buffer
    (flush_of_done c.requires.0 (g.S.Shelf.state c.args.shelf.now) c.args.core.now c.args.done c.requires.1 c.requires.2
    (sym c.in-None.ensures.owner)) c.in-Read.is

pub unreachable-requires-in-Write : goal.unreachable-requires-in-Write
unreachable-requires-in-Write g c =
    no_write c.args.core.now c.args.done c.in-Write._span c.in-Write._sectors
    (flush_of_done c.requires.0 (g.S.Shelf.state c.args.shelf.now) c.args.core.now c.args.done c.requires.1 c.requires.2
    (sym c.in-None.ensures.owner)) c.in-Write.is

pub returns-in-Some-clause-follows : goal.returns-in-Some-clause-follows
returns-in-Some-clause-follows g c =
    λ before kept completes. follows_piece before (g.S.Shelf.state c.args.shelf.now) c.args.core.now c.args.done c.in-Some.owner
    c.lands.new.self _ completes (g.met.S.Shelf.lawful c.args.shelf.now) (sym c.in-Some.ensures.owner) c.in-Some.ensures.after
    c.end_piece.ensures.ends

pub returns-in-Flush-clause-follows : goal.returns-in-Flush-clause-follows
returns-in-Flush-clause-follows g c =
    λ before kept completes. follows_flush before (g.S.Shelf.state c.args.shelf.now) c.args.core.now c.args.done c.in-Flush.pv
    c.lands.new.self c.ended.new.self _ completes (g.met.S.Shelf.lawful c.args.shelf.now) (sym c.in-None.ensures.owner)
    c.in-None.ensures.after c.ended.ensures.after c.in-Flush.is c.release_all.ensures.ends

pub returns-in-Flush-clause-released : goal.returns-in-Flush-clause-released
returns-in-Flush-clause-released g c =
    c.release_all.ensures.released
    (ends_flush c.requires.0 (g.S.Shelf.state c.args.shelf.now) c.args.core.now c.args.done c.in-Flush.pv c.lands.new.self c.ended.new.self
    c.requires.1 c.requires.2 (g.met.S.Shelf.lawful c.args.shelf.now) (sym c.in-None.ensures.owner) c.in-Flush.is c.in-None.ensures.after
    c.ended.ensures.after c.ended.ensures.none).released
