use Rattle.io_session.proofs.TimelyTraces.{turned}
use Rattle.io_session.proofs.desk.Desk.settle.Goals as goal

pub invariant_of-self : goal.invariant_of-self
invariant_of-self g c =
    turned _ _ _ _ _ _ _ _ c.self.view_is c.self.invariant c.settle.ensures.begun c.settle.ensures.made c.requires
