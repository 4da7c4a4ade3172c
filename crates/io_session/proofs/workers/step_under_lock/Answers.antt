use Rattle.io_session.proofs.Prefixes.{prefix_over}
use Rattle.io_session.proofs.workers.step_under_lock.Goals as goal

pub returns-clause-seen : goal.returns-clause-seen
returns-clause-seen g c = prefix_over _ _ _ _ _
    c.take-desk.ensures.seen c.take-desk.ensures.value.1 c.step-outcome.ensures.longer c.give.ensures.value.1
