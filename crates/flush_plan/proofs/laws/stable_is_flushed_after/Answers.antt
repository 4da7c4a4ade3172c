use Rattle.flush_plan.proofs.Stable.{ended_is_ended_after, stable_is_flushed_after}
use Rattle.flush_plan.proofs.laws.stable_is_flushed_after.Goals as goal

pub returns-clause-stable : goal.returns-clause-stable
returns-clause-stable c = stable_is_flushed_after

pub returns-clause-ended : goal.returns-clause-ended
returns-clause-ended c = ended_is_ended_after
