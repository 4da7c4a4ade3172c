use Rattle.image_scans.proofs.LineScans.{base_scans, images_scan, last_scans, unpublished_scans}
use Rattle.image_scans.proofs.laws.change_scans.Goals as goal

pub returns-clause-base : goal.returns-clause-base
returns-clause-base c = λ base sizes found scan whole. base_scans base sizes found scan whole

pub returns-clause-on_the_way : goal.returns-clause-on_the_way
returns-clause-on_the_way c =
    λ base image sizes found names backup line now given p h. images_scan base sizes found names backup line now given p image h

pub returns-clause-unpublished : goal.returns-clause-unpublished
returns-clause-unpublished c =
    λ base image sizes found names backup line now given n group p is less h. unpublished_scans base sizes found names backup line now given
    p image n less h group is

pub returns-clause-at_the_end : goal.returns-clause-at_the_end
returns-clause-at_the_end c = λ base sizes found names backup line now given p. last_scans base sizes found names backup line now given p
