use Rattle.pending_versions.proofs.Staying.{births_stay, entry_keeps, settled_on, step_keeps}
use Rattle.pending_versions.proofs.laws.pending_commands_stay.Goals as goal

pub returns-clause-entries : goal.returns-clause-entries
returns-clause-entries c = λ o es e owes part. entry_keeps o es e owes part

pub returns-clause-steps : goal.returns-clause-steps
returns-clause-steps c = λ step o es none part. step_keeps step o es none part

pub returns-clause-settled : goal.returns-clause-settled
returns-clause-settled c = λ step o places none settled. settled_on step o places none settled

pub returns-clause-births : goal.returns-clause-births
returns-clause-births c = λ o es e none owes part. births_stay o es e none owes part
