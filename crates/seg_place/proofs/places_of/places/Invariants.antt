use Rattle.seg_place.proofs.places_of.places.Given as goal

abbrev pub ghosts-places_from : goal.ghosts-places_from
ghosts-places_from a = record { name = a.blank.name; parts = a.blank.parts }
