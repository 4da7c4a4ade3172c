use Rattle.volume_history.proofs.EarlierMoments.{entry_stays, replay_stays, step_stays}
use Rattle.volume_history.proofs.Legal.{legal_append, legal_step}
use Rattle.volume_history.proofs.Answers.{moved_by_ok}
use Rattle.volume_history.proofs.Bases.{base_moves}
use Rattle.volume_history.proofs.Brought.{source_is_candidate}
use Rattle.volume_history.proofs.Numbered.{numbered}
use Rattle.volume_history.proofs.Places.{place_by_ok}
use Rattle.volume_history.proofs.laws.histories_stay.Goals as goal

pub returns-clause-past : goal.returns-clause-past
returns-clause-past c = λ d moment step e. (λ le. step_stays step d moment le, λ lt. entry_stays e d moment lt)

pub returns-clause-replay : goal.returns-clause-replay
returns-clause-replay c = λ step o es. replay_stays step o es

pub returns-clause-grow : goal.returns-clause-grow
returns-clause-grow c = λ d e step legal. (λ ordered faithful by. legal_append e d legal ordered faithful by, legal_step step d legal)

pub returns-clause-bases : goal.returns-clause-bases
returns-clause-bases c = λ o es key x e. base_moves o es key x e

pub returns-clause-oks : goal.returns-clause-oks
returns-clause-oks c = λ o es m n key x ordered. moved_by_ok o es m n key x (numbered o.start es ordered)

pub returns-clause-sources : goal.returns-clause-sources
returns-clause-sources c = λ o es key x s. source_is_candidate o es key x s

pub returns-clause-answers : goal.returns-clause-answers
returns-clause-answers c = λ o es key x place m n. place_by_ok o es key x place m n
