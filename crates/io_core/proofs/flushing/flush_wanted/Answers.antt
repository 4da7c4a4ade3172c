use Rattle.std.proofs.Common.{refl, sym, ◌∙◌}
use Rattle.world_acts.specs.Acts.{follows, world}
use Rattle.world_acts.proofs.Reaching.{reaches_none}
use Rattle.io_core.proofs.WantedFlushes.{IsFlushed, flush_submitted, wanted_released}
use Rattle.io_core.proofs.flushing.flush_wanted.Goals as goal

pub submit_flush-requires-clause-wanted : goal.submit_flush-requires-clause-wanted
submit_flush-requires-clause-wanted g c = sym c.wants.ensures ∙ c.if-not-wants.false

pub submit_flush-requires-clause-released : goal.submit_flush-requires-clause-released
submit_flush-requires-clause-released g c =
    wanted_released c.args.core.now c.args.pv c.requires.settled (sym c.wants.ensures ∙ c.if-not-wants.false)

pub returns-then-not-wants : goal.returns-then-not-wants
returns-then-not-wants g c = record {
  reaches = reaches_none follows (world (g.S.Shelf.state c.args.shelf.now) c.args.core.now);
  settled = c.requires.settled;
  here = sym c.wants.ensures ∙ c.if-not-wants.true;
  opens = refl;
  others = λ other apart not_wanted. not_wanted;
}

pub returns : goal.returns
returns g c =
    let is : IsFlushed c.args.pv (world (g.S.Shelf.state c.args.shelf.now) c.args.core.now)
    (world (g.S.Shelf.state c.submit_flush.new.shelf) c.submit_flush.new.core) =
    flush_submitted (world (g.S.Shelf.state c.args.shelf.now) c.args.core.now) c.args.pv c.submit_flush.ensures.0
    (g.S.Shelf.state c.submit_flush.new.shelf) c.submit_flush.new.core c.requires.orderly c.requires.settled
    (sym c.wants.ensures ∙ c.if-not-wants.false) c.submit_flush.ensures.1 (g.met.S.Shelf.lawful c.submit_flush.new.shelf)
    c.submit_flush.ensures.2 in
    record { reaches = is.reaches; settled = is.settled; here = is.here; opens = is.opens; others = is.others }
