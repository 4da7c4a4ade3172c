use Rattle.line_history.proofs.EachSet.{commit_finds, members_find}
use Rattle.line_history.proofs.EachSetRemoved.{removal_finds}
use Rattle.line_history.proofs.each_set.each_set_finds.Goals as goal

pub returns-clause-finds : goal.returns-clause-finds
returns-clause-finds c =
    λ base sizes found names backup line now given group p is some other scan finds. commit_finds c.one_reading.ensures.readings base sizes
    found names backup line now given p group is some other scan finds

pub returns-clause-removed : goal.returns-clause-removed
returns-clause-removed c =
    λ base sizes found names backup line now given vg p is some scan. removal_finds base sizes found names backup line now given vg p is
    c.one_reading.ensures.readings some scan

pub returns-clause-members : goal.returns-clause-members
returns-clause-members c = λ base image sizes found names backup line now given group p is way some other scan members finds.
    members_find c.one_reading.ensures.readings base image sizes found names backup line now given group p is way some other scan members
    finds
