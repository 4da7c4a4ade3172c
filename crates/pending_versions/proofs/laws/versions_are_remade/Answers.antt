use Rattle.pending_versions.proofs.Beside.{births_beside}
use Rattle.pending_versions.proofs.Machines.{machine_on, machine_stays, opening_is_shown}
use Rattle.pending_versions.proofs.Remade.{changes_remake}
use Rattle.pending_versions.proofs.laws.versions_are_remade.Goals as goal

pub returns-clause-remade : goal.returns-clause-remade
returns-clause-remade c =
    λ kind before after none is state machine image. changes_remake kind before after none is state machine image

pub returns-clause-opening : goal.returns-clause-opening
returns-clause-opening c = λ version image. opening_is_shown version image

pub returns-clause-machines : goal.returns-clause-machines
returns-clause-machines c = λ o es e owes machine. machine_stays o es e owes machine

pub returns-clause-beside : goal.returns-clause-beside
returns-clause-beside c = λ kind before after is apart. births_beside kind before after is apart

pub returns-clause-steps : goal.returns-clause-steps
returns-clause-steps c = λ step o es first upto machine. machine_on step o es first upto machine
