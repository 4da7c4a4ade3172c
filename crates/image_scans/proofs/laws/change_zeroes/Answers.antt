use Rattle.image_scans.proofs.Zeroes.{zeroes_keep_places, zeroes_kept, zeroes_lie, zeroes_scan}
use Rattle.image_scans.proofs.laws.change_zeroes.Goals as goal

pub returns-clause-lie : goal.returns-clause-lie
returns-clause-lie c = λ base sizes found names backup line now given p. zeroes_lie base sizes found names backup line now given p

pub returns-clause-scan : goal.returns-clause-scan
returns-clause-scan c =
    λ base image sizes found names backup line now given p h. zeroes_scan base sizes found names backup line now given p image h

pub returns-clause-places : goal.returns-clause-places
returns-clause-places c =
    λ base image sizes found names backup line now given group p is h lv sector at there. zeroes_keep_places base sizes found names backup
    line now given p image h group is lv sector at there

pub returns-clause-kept : goal.returns-clause-kept
returns-clause-kept c =
    λ base image sizes found names backup line now given p h disk sector is. zeroes_kept base sizes found names backup line now given p
    image h disk sector is
