-- The places that the code computes, as their definition has them.
use Rattle.std.specs.Prelude.{option_map}
use Rattle.seg_place.specs.declared.sector_places.Places as code
use Rattle.seg_place.specs.CodeValues.{as_mirror}
use Rattle.volume_view.specs.Places.{Places}

-- all places of a sector, as the definition of places has them
abbrev pub as_places : code.Places → Places
as_places p = record { primary = p.primary; others = p.others; mirror = option_map as_mirror p.mirror }
