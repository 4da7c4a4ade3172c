use Rattle.world_places.proofs.Pieces.{tracked_by_flush, tracked_by_flushed, tracked_by_lost, tracked_by_step, tracked_by_submissions}
use Rattle.world_places.proofs.laws.steps_keep.Goals as goal

pub returns-clause-steps : goal.returns-clause-steps
returns-clause-steps c = λ g key x place step told none h. tracked_by_step g key x place told step none h

pub returns-clause-submissions : goal.returns-clause-submissions
returns-clause-submissions c = λ g key x place os told none h. tracked_by_submissions os g key x place told none h

pub returns-clause-flushes : goal.returns-clause-flushes
returns-clause-flushes c = λ g key x place tag disk told h. tracked_by_flush g key x place told tag disk h

pub returns-clause-flushed : goal.returns-clause-flushed
returns-clause-flushed c =
    λ g key x place tag disk fresh told flies its within h. tracked_by_flushed g key x place told tag disk fresh flies its within h

pub returns-clause-lost : goal.returns-clause-lost
returns-clause-lost c = λ g key x place tag disk fresh told flies h. tracked_by_lost g key x place told tag disk fresh flies h
