-- Places of volumes where each sector has one possible value.
use Rattle.std.proofs.Common.{List, [], ◌∷◌}
use Rattle.disk_model.specs.Durability.{IsBase}
use Rattle.disk_model.specs.Steps.{Image, Record}
use Rattle.volume_history.specs.Placed.{Place, PlacedVolume}
use Rattle.volume_history.specs.Quiet.{AllUntouched, AreUntouched}

-- where each sector has one value no place is touched
places_stay : (base : Image) (told : Record) → IsBase told base → (places : List Place) → AreUntouched base places told
places_stay base told is [] = tt
places_stay base told is (p ∷ ps) = ((is p.disk p.sector).each, places_stay base told is ps)

pub all_stay : (base : Image) (told : Record) → IsBase told base → (volumes : List PlacedVolume) → AllUntouched base volumes told
all_stay base told is [] = tt
all_stay base told is (v ∷ vs) = (places_stay base told is v.places, all_stay base told is vs)
