use Rattle.io_core.proofs.Continued.{begins_on, begins_orderly, begins_plain, wait_whole}
use Rattle.world_acts.specs.Acts.{world}
use Rattle.world_acts.proofs.Orderly.{orderly_reaches}
use Rattle.io_core.proofs.Plain.{plain_reaches}
use Rattle.io_core.proofs.world.begin_prepared.Goals as goal

pub begin-begun-requires-clause-waits : goal.begin-begun-requires-clause-waits
begin-begun-requires-clause-waits g c =
    λ is. wait_whole (world (g.S.Shelf.state c.args.shelf.now) c.args.core.now) c.args.line c.args.plan c.requires.may
    (c.waits_for_all-is_wait.ensures.wait is)

pub begin-begun-requires-clause-holds : goal.begin-begun-requires-clause-holds
begin-begun-requires-clause-holds g c = c.waits_for_all-is_wait.ensures.wait

pub submit_flushes-requires-clause-orderly : goal.submit_flushes-requires-clause-orderly
submit_flushes-requires-clause-orderly g c =
    begins_orderly (world (g.S.Shelf.state c.args.shelf.now) c.args.core.now) _ c.args.line c.requires.kept.orderly
    c.begin-begun.ensures.begins

pub returns-clause-begins : goal.returns-clause-begins
returns-clause-begins g c =
    begins_on (world (g.S.Shelf.state c.args.shelf.now) c.args.core.now) _ _ c.args.line c.begin-begun.result c.begin-begun.ensures.begins
    c.submit_flushes.ensures.reaches c.submit_flushes.ensures.opens

pub returns-clause-kept : goal.returns-clause-kept
returns-clause-kept g c =
    let w = world (g.S.Shelf.state c.args.shelf.now) c.args.core.now in
    record {
      orderly =
          orderly_reaches c.submit_flushes.ensures.reaches
          (begins_orderly w _ c.args.line c.requires.kept.orderly c.begin-begun.ensures.begins);
      rest = c.submit_flushes.ensures.rest;
      plain =
          plain_reaches c.submit_flushes.ensures.reaches
          (begins_plain w _ c.args.line c.requires.kept.plain c.begin-begun.ensures.begins);
    }

pub begin-begun-requires-clause-all : goal.begin-begun-requires-clause-all
begin-begun-requires-clause-all g c = c.waits_for_all-is_wait.ensures.all
