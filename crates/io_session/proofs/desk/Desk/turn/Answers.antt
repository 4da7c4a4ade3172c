use Rattle.io_session.proofs.TimelyTraces.{turned}
use Rattle.io_session.proofs.desk.Desk.turn.Goals as goal

pub invariant_of-self : goal.invariant_of-self
invariant_of-self g c =
    turned _ _ _ _ _ _ _ _ c.self.view_is c.self.invariant c.turn.ensures.begun c.turn.ensures.made c.requires
