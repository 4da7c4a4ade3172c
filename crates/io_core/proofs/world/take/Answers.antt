use Rattle.world_acts.specs.Acts.{world}
use Rattle.world_acts.proofs.Orderly.{orderly_reaches}
use Rattle.io_core.proofs.Continued.{follows_on, follows_orderly, follows_plain, settled_after}
use Rattle.io_core.proofs.Plain.{plain_reaches}
use Rattle.io_core.proofs.world.take.Goals as goal

pub start_ready-requires : goal.start_ready-requires
start_ready-requires g c = record {
  orderly =
      follows_orderly (world c.requires.0 c.args.core.now) _ c.args.done (g.S.Shelf.state c.args.shelf.now) c.requires.1.orderly
      (c.land.ensures.follows c.requires.0 c.requires.1 c.requires.2);
  calm = c.land.ensures.calm;
}

pub submit_flushes-requires : goal.submit_flushes-requires
submit_flushes-requires g c = record {
  orderly =
      orderly_reaches c.start_ready.ensures.reaches
      (follows_orderly (world c.requires.0 c.args.core.now) _ c.args.done (g.S.Shelf.state c.args.shelf.now) c.requires.1.orderly
      (c.land.ensures.follows c.requires.0 c.requires.1 c.requires.2));
  settled =
      settled_after c.land.new.core c.start_ready.new.core c.start_ready.ensures.calm c.start_ready.ensures.ready
      c.start_ready.ensures.waits c.land.ensures.released;
}

pub returns : goal.returns
returns g c =
    let w = world c.requires.0 c.args.core.now in
    let now = g.S.Shelf.state c.args.shelf.now in
    let landed = c.land.ensures.follows c.requires.0 c.requires.1 c.requires.2 in
    record {
      kept = record {
        orderly =
            orderly_reaches c.submit_flushes.ensures.reaches
            (orderly_reaches c.start_ready.ensures.reaches (follows_orderly w _ c.args.done now c.requires.1.orderly landed));
        rest = c.submit_flushes.ensures.rest;
        plain =
            plain_reaches c.submit_flushes.ensures.reaches
            (plain_reaches c.start_ready.ensures.reaches (follows_plain w _ c.args.done now c.requires.1.plain landed));
      };
      follows =
          λ before kept completes. follows_on (world before c.args.core.now) _ _ c.args.done now
          (follows_on (world before c.args.core.now) _ _ c.args.done now (c.land.ensures.follows before kept completes)
          c.start_ready.ensures.reaches) c.submit_flushes.ensures.reaches;
    }
