use Rattle.repair_scans.proofs.RepairEnd.{repaired_scans}
use Rattle.repair_scans.proofs.RepairFound.{repairs_scan}
use Rattle.repair_scans.proofs.StraysApart.{strays_apart}
use Rattle.repair_scans.proofs.laws.repair_scans.Goals as goal

pub returns-clause-on_the_way : goal.returns-clause-on_the_way
returns-clause-on_the_way c = λ base image sizes found p h. repairs_scan base sizes found p image h

pub returns-clause-apart : goal.returns-clause-apart
returns-clause-apart c = λ base sizes found scan. strays_apart base sizes found scan

pub returns-clause-at_the_end : goal.returns-clause-at_the_end
returns-clause-at_the_end c = λ base sizes found p. repaired_scans c.one_reading.ensures.readings base sizes found p
