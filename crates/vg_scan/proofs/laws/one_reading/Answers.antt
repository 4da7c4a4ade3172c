-- A text has one tree or one cause, and what stands on a disk is one, so the disks of an image are read in one way.
use Rattle.vg_scan.proofs.OneReading.{one_reading}
use Rattle.vg_scan.proofs.laws.one_reading.Goals as goal

pub returns-clause-disks : goal.returns-clause-disks
returns-clause-disks c = λ image sizes unread ds es xs ys are are'.
    (one_reading c.one_outcome.ensures.trees c.one_outcome.ensures.refused c.one_outcome.ensures.causes c.one_finding.ensures image sizes
    unread ds es xs ys are are').0

pub returns-clause-readings : goal.returns-clause-readings
returns-clause-readings c = λ image sizes unread ds es xs ys are are'.
    (one_reading c.one_outcome.ensures.trees c.one_outcome.ensures.refused c.one_outcome.ensures.causes c.one_finding.ensures image sizes
    unread ds es xs ys are are').1
