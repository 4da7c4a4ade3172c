use Rattle.batch_queue.proofs.Settling.{settling_beside, settling_starts, settling_turns}
use Rattle.batch_queue.proofs.laws.settling_laws.Goals as goal

pub returns : goal.returns
returns c = record { starts = settling_starts; turns = settling_turns; beside = settling_beside }
