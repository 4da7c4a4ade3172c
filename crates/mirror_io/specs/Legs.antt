-- Which legs of a mirror a piece uses, by the state of its region.
use Rattle.std.specs.Prelude.{ℕ, Bool, true, false, Option, None, List, [], ◌∷◌, slice_get}
use Rattle.sector_base.specs.declared.places.At.{At}
use Rattle.region_log.specs.declared.region.Region.{Region}
use Rattle.region_log.specs.declared.region.Region.TheVariants.{Unsynced, Copying, Synced}

-- where a piece is read or written: a write in a region whose legs agree at all of them, the primary place first, and every
-- other piece at the primary place alone
abbrev pub legs_for : At → List At → Region → Bool → List At
legs_for primary others Synced true = primary ∷ others
legs_for primary others Synced false = primary ∷ []
legs_for primary others Copying write = primary ∷ []
legs_for primary others Unsynced write = primary ∷ []

-- where a read goes on that failed at so many legs, the primary place first: in a region whose legs agree at the next one, if
-- there is one left
abbrev pub next_leg : At → List At → Region → ℕ → Option At
next_leg primary others Synced tried = slice_get (primary ∷ others) tried
next_leg primary others Copying tried = None
next_leg primary others Unsynced tried = None
