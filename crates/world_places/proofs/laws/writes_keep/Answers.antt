use Rattle.world_places.proofs.Pieces.{tracked_by_bad, tracked_by_other, tracked_by_write, tracked_by_written}
use Rattle.world_places.proofs.laws.writes_keep.Goals as goal

pub returns-clause-submitted : goal.returns-clause-submitted
returns-clause-submitted c =
    λ g key x place lives l0 tag span sectors told is runs value still real legs h.
    tracked_by_write g key x place told lives l0 is tag span sectors runs value still real legs h

pub returns-clause-written : goal.returns-clause-written
returns-clause-written c =
    λ g key x place lives l0 leg0 tag number work fresh told orderly inside writing flies real legs h.
    tracked_by_written g key x place told lives l0 leg0 tag number work fresh orderly inside writing flies real legs h

pub returns-clause-bad : goal.returns-clause-bad
returns-clause-bad c =
    λ g key x place lives tag work fresh told real legs h. tracked_by_bad g key x place told lives tag work fresh real legs h

pub returns-clause-other : goal.returns-clause-other
returns-clause-other c =
    λ g key x place lives tag number disk work fresh told real legs h.
    tracked_by_other g key x place told lives tag number disk work fresh real legs h
