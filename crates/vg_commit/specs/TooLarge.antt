-- When a text isn't committed for want of room.
use Rattle.std.specs.Prelude.{◌≡◌, ◌<◌, ℕ, ◌+◌, nat_lt, if◌then◌else◌, List, [], ◌∷◌, length, Option, None, Some}
use Rattle.mda_header.specs.declared.header.Locn.{Locn}
use Rattle.mda_ring.specs.declared.area.Area.{Area}
use Rattle.mda_ring.specs.Ring.{need, room}
use Rattle.vg_commit.specs.declared.refusal.CommitRefusal.{CommitRefusal}
use Rattle.vg_commit.specs.declared.refusal.CommitRefusal.TheVariants.{NoMemory, TooLarge}

-- of the first area that can't take the stored text beside its committed one, how many sectors it needs and how many
-- there are
abbrev pub first_too_large : List ℕ → List (Area × Option Locn) → Option (ℕ × ℕ)
first_too_large text [] = None
first_too_large text (area ∷ areas) =
    if nat_lt (room area.0.size area.1) (need (length text + 1)) then Some (need (length text + 1), room area.0.size area.1)
    else first_too_large text areas

-- memory is wanting, or these are the numbers of the first area that can't take the text
abbrev pub IsCause : List ℕ → List (Area × Option Locn) → CommitRefusal → Type 0
IsCause text areas NoMemory = Unit {0}
IsCause text areas (TooLarge need room) = first_too_large text areas ≡ Some (need, room)

-- a text of so many bytes as it is stored can't be placed beside the committed one, with the sectors that it needs and
-- those that there are
abbrev pub IsTooLargeFor : ℕ → Option Locn → ℕ → CommitRefusal → Type 0
IsTooLargeFor size committed count NoMemory = ⊥
IsTooLargeFor size committed count (TooLarge need' room') = (need' ≡ need count) × (room' ≡ room size committed) × (room' < need')
