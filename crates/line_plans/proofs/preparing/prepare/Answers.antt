-- The plan holds on once memory is taken.
use Rattle.world_acts.specs.Acts.{world}
use Rattle.world_acts.proofs.Growing.{grown_none}
use Rattle.line_plans.proofs.Prepared.{prepared}
use Rattle.line_plans.proofs.preparing.prepare.Goals as goal

pub plan_of-requires-clause-laid : goal.plan_of-requires-clause-laid
plan_of-requires-clause-laid g c = ((g.S.Shelf.state c.args.shelf.now).sizes, c.requires.orderly.backed.places.laid)

pub returns-in_err-plan-clause-grown : goal.returns-in_err-plan-clause-grown
returns-in_err-plan-clause-grown g c =
    grown_none (world (g.S.Shelf.state c.args.shelf.now) c.args.core.now) (g.met.S.Shelf.lawful c.args.shelf.now)

pub returns-clause-may : goal.returns-clause-may
returns-clause-may g c =
    prepared (world (g.S.Shelf.state c.args.shelf.now) c.args.core.now) (world (g.S.Shelf.state c.reserve.new.shelf) c.reserve.new.core)
    c.args.line.now c.in_ok-plan.plan c.in_ok-reserve.ensures.grown c.requires.orderly c.in_ok-plan.ensures c.in_ok-reserve.ensures.room
