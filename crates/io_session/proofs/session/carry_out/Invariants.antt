use Rattle.io_session.specs.Desks.{Continues, begins_left}
use Rattle.io_session.proofs.session.carry_out.Given as goal

abbrev pub invariant-loop-desk : goal.invariant-loop-desk
invariant-loop-desk g l = Continues g.W.Driven.begun g.W.Driven.journal l.initial.desk l.desk

abbrev pub decreases-loop-desk : goal.decreases-loop-desk
decreases-loop-desk g l = begins_left l.desk
