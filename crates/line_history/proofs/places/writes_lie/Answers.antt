use Rattle.line_history.proofs.WritesLieClears.{clear_writes_lie}
use Rattle.line_history.proofs.WritesLieLine.{line_writes_lie}
use Rattle.line_history.proofs.WritesLieRepair.{repair_writes_lie}
use Rattle.line_history.proofs.WritesLieZeros.{zero_writes_lie}
use Rattle.line_history.proofs.places.writes_lie.Goals as goal

pub returns-clause-line : goal.returns-clause-line
returns-clause-line c =
    λ base sizes found names backup line now given p pv sector is. line_writes_lie base sizes found names backup line now given p pv sector
    is

pub returns-clause-zeros : goal.returns-clause-zeros
returns-clause-zeros c =
    λ base sizes found names backup line now given p pv sector is. zero_writes_lie base sizes found names backup line now given p pv sector
    is

pub returns-clause-clears : goal.returns-clause-clears
returns-clause-clears c = λ state line now given pv sector is. clear_writes_lie state line now given pv sector is

pub returns-clause-repair : goal.returns-clause-repair
returns-clause-repair c = λ base sizes found p pv sector is. repair_writes_lie base sizes found p pv sector is
