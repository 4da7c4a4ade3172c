use Rattle.std.proofs.Common.{sym, ◌∙◌}
use Rattle.std.proofs.lemmas.Bool.{MatchBool-at_true}
use Rattle.io_session.proofs.TimelyTraces.{tended, halted}
use Rattle.io_session.proofs.desk.Desk.tend.Goals as goal

pub invariant_of-self : goal.invariant_of-self
invariant_of-self g c =
    halted _ _ _ _ _ _ _ c.self.view_is c.self.invariant c.tend.ensures.begun c.in-Err.ensures.refused.1
    c.halt_move.ensures.begun
    (MatchBool-at_true _ _ (c.in-Err.ensures.kept.same_due ∙ c.in-Err.ensures.refused.0) c.halt_move.ensures.made).0

pub invariant_of-self-in_default : goal.invariant_of-self-in_default
invariant_of-self-in_default g c =
    tended _ _ _ _ _ _ c.self.view_is c.self.invariant c.tend.ensures.begun
    (MatchBool-at_true _ _ (sym c.if-not-is_due.ensures) c.in_default.ensures.made).0
