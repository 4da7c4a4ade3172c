use Rattle.io_session.proofs.Quiescence.{quiescent}
use Rattle.io_session.proofs.desk.Desk.tend_or_settle.Goals as goal

pub returns-clause-quiescent : goal.returns-clause-quiescent
returns-clause-quiescent g c h =
    let stays = c.tend.ensures.stays c.if-tend.false in
    quiescent g.W.Driven.in_flight g.W.Driven.is_due g.W.Driven.is_done g.W.Driven.allows
    c.args.self.now c.tend.new.self c.settle.new.self stays.0 stays.1 c.requires
    c.settle.ensures.same.0 c.settle.ensures.same.1 (c.settle.ensures.drained h)
