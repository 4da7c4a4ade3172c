-- Volumes of two groups that stand at the same places, physical volumes being compared by their ids.
use Rattle.std.specs.Prelude.{◌≡◌, ℕ, Option, List, map, slice_get, option_map}
use Rattle.sector_base.specs.declared.places.At.{At}
use Rattle.meta_model.specs.declared.group.Group.{Group}
use Rattle.meta_model.specs.declared.pv.Pv.{Pv}
use Rattle.volume_view.specs.Places.{Places, places}

-- a place, the physical volume by its id
abbrev pub by_id : Group → At → Option (List ℕ × ℕ)
by_id group at = option_map (λ (p : List ℕ × Pv). (p.1.id, at.sector)) (slice_get group.pvs at.pv)

-- the primary place of a sector and its others, by ids
abbrev pub places_by_id : Group → ℕ → ℕ → Option (Option (List ℕ × ℕ) × List (Option (List ℕ × ℕ)))
places_by_id group lv sector =
    option_map
    (λ (p : Places). let both : Option (List ℕ × ℕ)
    × List (Option (List ℕ × ℕ)) = (by_id group p.primary, map (by_id group) p.others) in both)
    (places group lv sector)

-- each sector of the one group's volume has the same primary place and others as that of the other group's volume
abbrev pub SamePlaces : Group → Group → ℕ → ℕ → Type 0
SamePlaces group other lv other_lv = (sector : ℕ) → places_by_id group lv sector ≡ places_by_id other other_lv sector
