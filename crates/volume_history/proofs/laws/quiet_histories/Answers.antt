use Rattle.volume_history.proofs.Quiet.{quiet_consistent}
use Rattle.volume_history.proofs.laws.quiet_histories.Goals as goal

pub returns : goal.returns
returns c = λ d moment. quiet_consistent d moment
