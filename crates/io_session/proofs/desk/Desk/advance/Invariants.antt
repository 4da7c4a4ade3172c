use Rattle.std.proofs.Common.{◌≤◌}
use Rattle.io_session.specs.Desks.{Continues, begins_left}
use Rattle.io_session.proofs.desk.Desk.advance.Given as goal

abbrev pub invariant-loop-self : goal.invariant-loop-self
invariant-loop-self g l =
    Continues g.W.Driven.begun g.W.Driven.journal l.initial.self l.self × (begins_left l.self ≤ begins_left l.initial.self)

abbrev pub decreases-loop-self : goal.decreases-loop-self
decreases-loop-self g l = g.W.Driven.left l.self.world
