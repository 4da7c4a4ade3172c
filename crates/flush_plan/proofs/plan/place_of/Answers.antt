use Rattle.std.proofs.Common.{◌==◌}
use Rattle.flush_plan.specs.declared.records.Flush.{Flush}
use Rattle.list_laws.proofs.Positions.{placed}
use Rattle.flush_plan.proofs.plan.place_of.Goals as goal

pub returns-clause-place : goal.returns-clause-place
returns-clause-place c =
    (placed (λ (f : Flush). f.tag == c.args.tag) c.args.flushes.now c.find_flush.result c.unwrap_or.result c.find_flush.ensures
    c.unwrap_or.ensures c.requires).0

pub returns-clause-within : goal.returns-clause-within
returns-clause-within c =
    (placed (λ (f : Flush). f.tag == c.args.tag) c.args.flushes.now c.find_flush.result c.unwrap_or.result c.find_flush.ensures
    c.unwrap_or.ensures c.requires).1
