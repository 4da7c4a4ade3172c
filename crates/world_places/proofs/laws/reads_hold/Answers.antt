use Rattle.world_places.proofs.Now.{now_by_bad, now_by_step, now_by_written, now_settled}
use Rattle.world_places.proofs.laws.reads_hold.Goals as goal

pub returns-clause-steps : goal.returns-clause-steps
returns-clause-steps c = λ g key x place step lives plan told none ends h. now_by_step g key x place step lives plan told none ends h

pub returns-clause-written : goal.returns-clause-written
returns-clause-written c =
    λ g key x place tag span sectors fresh lives plan l0 leg0 inside value writing ended only.
    now_by_written g key x place tag span sectors fresh lives plan l0 leg0 inside value writing ended only

pub returns-clause-bad : goal.returns-clause-bad
returns-clause-bad c =
    λ g key x place tag span sectors fresh lives plan l0 leg0 told value writing bad none was.
    now_by_bad g key x place tag span sectors fresh lives plan l0 leg0 told value writing bad none was

pub returns-clause-settled : goal.returns-clause-settled
returns-clause-settled c = λ g key x place same none. now_settled g key x place same none
