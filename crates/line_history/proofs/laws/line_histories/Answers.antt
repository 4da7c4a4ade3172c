use Rattle.line_history.proofs.Histories.{cleared, ends, lines}
use Rattle.line_history.proofs.Looks.{looks, reports}
use Rattle.line_history.proofs.laws.line_histories.Goals as goal

pub returns-clause-lines : goal.returns-clause-lines
returns-clause-lines c = λ g stage start ended said r may. lines c.repair_scans.ensures.at_the_end g start ended stage said r may

pub returns-clause-clears : goal.returns-clause-clears
returns-clause-clears c = λ g well start ended said cl may. cleared c.repair_scans.ensures.at_the_end g start ended well said cl may

pub returns-clause-ends : goal.returns-clause-ends
returns-clause-ends c = λ g stage start ended r early. ends c.repair_scans.ensures.at_the_end g start ended stage r early

pub returns-clause-looks : goal.returns-clause-looks
returns-clause-looks c = λ handed sizes names clock start ended l. looks handed sizes names clock start ended l

pub returns-clause-reports : goal.returns-clause-reports
returns-clause-reports c =
    λ handed sizes names clock start ended line said l plain none may says. reports handed sizes names clock start ended l line plain none
    said may says
