use Rattle.image_scans.proofs.ClearPlaces.{clears_keep_places}
use Rattle.image_scans.proofs.ClearScans.{clears_scan}
use Rattle.image_scans.proofs.RemovalScans.{removal_ends, removal_scans}
use Rattle.image_scans.proofs.laws.change_clears.Goals as goal

pub returns-clause-commit : goal.returns-clause-commit
returns-clause-commit c = clears_scan

pub returns-clause-removal : goal.returns-clause-removal
returns-clause-removal c =
    λ base image sizes found names backup line now given vg p is h. removal_scans base image sizes found names backup line now given vg p is
    h

pub returns-clause-removed : goal.returns-clause-removed
returns-clause-removed c =
    λ base sizes found names backup line now given vg p is. removal_ends base base sizes found names backup line now given vg p is

pub returns-clause-places : goal.returns-clause-places
returns-clause-places c = clears_keep_places
