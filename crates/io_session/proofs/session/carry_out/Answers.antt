use Rattle.io_session.proofs.CarriedOut.{carried_out, continues_both}
use Rattle.io_session.proofs.session.carry_out.Goals as goal

pub returns : goal.returns
returns g c = carried_out _ _ _ _ _ _ _ _ _ _ _ c.desk.view_is c.desk.invariant
    (continues_both _ _ _ _ _ c.loop-desk.invariant c.advance.ensures.on) c.loop-desk-test.ensures.ends
