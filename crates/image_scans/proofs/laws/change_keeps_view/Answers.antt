use Rattle.image_scans.proofs.NoWrites.{place_kept, places_outside, view_kept}
use Rattle.image_scans.proofs.laws.change_keeps_view.Goals as goal

pub returns-clause-outside : goal.returns-clause-outside
returns-clause-outside c =
    λ base sizes found names backup line now given group p is. places_outside base sizes found names backup line now given p group is

pub returns-clause-kept : goal.returns-clause-kept
returns-clause-kept c =
    λ base image sizes found names backup line now given group p is h lv sector at there. place_kept base sizes found names backup line now
    given p group is image h lv sector at there

pub returns-clause-view : goal.returns-clause-view
returns-clause-view c =
    λ base image sizes found names backup line now given group p is h. view_kept base sizes found names backup line now given p group is
    image h
