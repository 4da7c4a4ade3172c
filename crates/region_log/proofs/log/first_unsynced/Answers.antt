use Rattle.std.proofs.Common.{sym, ◌∙◌}
use Rattle.region_log.specs.declared.region.Region.TheVariants.{Unsynced}
use Rattle.region_log.proofs.FirstUnsynced.{past_synced, first_here, first_at_end}
use Rattle.region_log.proofs.log.first_unsynced.Goals as goal

pub loop-at-preserved : goal.loop-at-preserved
loop-at-preserved c =
    past_synced c.args.states.now c.loop-at.at Unsynced c.loop-at.invariant c.loop-at-test.true
    (sym c.is_unsynced.ensures ∙ c.if-not-is_unsynced.true)

pub returns-else-not-is_unsynced : goal.returns-else-not-is_unsynced
returns-else-not-is_unsynced c =
    first_here c.args.states.now c.loop-at.at Unsynced c.loop-at.invariant c.loop-at-test.true
    (sym c.is_unsynced.ensures ∙ c.if-not-is_unsynced.false)

pub returns-after-loop-at : goal.returns-after-loop-at
returns-after-loop-at c = first_at_end c.args.states.now c.loop-at.at c.loop-at.invariant c.loop-at-test.false
