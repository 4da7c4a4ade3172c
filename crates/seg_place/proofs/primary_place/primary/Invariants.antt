use Rattle.seg_place.proofs.primary_place.primary.Given as goal

abbrev pub ghosts-primary_from : goal.ghosts-primary_from
ghosts-primary_from a = record { name = a.blank.name; parts = a.blank.parts }
