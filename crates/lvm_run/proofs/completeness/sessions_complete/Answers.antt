use Rattle.lvm_run.proofs.Completed.{completes}
use Rattle.lvm_run.proofs.completeness.sessions_complete.Goals as goal

pub returns : goal.returns
returns g c = completes g.S.Shelf.state
