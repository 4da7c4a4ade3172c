use Rattle.volume_history.proofs.SingleLines.{done_commit, done_create, done_line, failed_create, fenced_commit, given_up_commit}
use Rattle.volume_history.proofs.SingleLines.{made_commit, no_line, undone_line}
use Rattle.volume_history.proofs.laws.single_commands.Goals as goal

pub returns-clause-no_line : goal.returns-clause-no_line
returns-clause-no_line c = λ o law. no_line o law

pub returns-clause-undone : goal.returns-clause-undone
returns-clause-undone c = λ o line answer law plain alone leaves bad says. undone_line o line law plain alone answer leaves bad says

pub returns-clause-line : goal.returns-clause-line
returns-clause-line c = λ o line law plain alone none says. done_line o line law plain alone none says

pub returns-clause-done : goal.returns-clause-done
returns-clause-done c = λ o line opened version law done. done_commit o line opened version law done

pub returns-clause-made : goal.returns-clause-made
returns-clause-made c = λ o line opened made version said law law_made may. made_commit o line opened version law made law_made said may

pub returns-clause-given_up : goal.returns-clause-given_up
returns-clause-given_up c = λ o line opened version pv law given_up kept. given_up_commit o line opened version law pv given_up kept

pub returns-clause-fenced : goal.returns-clause-fenced
returns-clause-fenced c = λ o line opened version pv law. fenced_commit o line opened version law pv

pub returns-clause-created : goal.returns-clause-created
returns-clause-created c = λ o line disk law done. done_create o line disk law done

pub returns-clause-failed : goal.returns-clause-failed
returns-clause-failed c = λ o line disk pv law. failed_create o line disk pv law
